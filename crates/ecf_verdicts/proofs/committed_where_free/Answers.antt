use Rattle.ecf_verdicts.proofs.ReceiptLaws as laws
use Rattle.ecf_verdicts.proofs.committed_where_free.Goals as goal

pub returns : goal.returns
returns c = laws.committed_where_free
