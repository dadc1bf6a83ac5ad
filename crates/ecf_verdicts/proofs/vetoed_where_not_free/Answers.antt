use Rattle.ecf_verdicts.proofs.ReceiptLaws as laws
use Rattle.ecf_verdicts.proofs.vetoed_where_not_free.Goals as goal

pub returns : goal.returns
returns c = laws.vetoed_where_not_free
