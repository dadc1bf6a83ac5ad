use Rattle.ecf_verdicts.proofs.ReceiptLaws as laws
use Rattle.ecf_verdicts.proofs.receipt_each.Goals as goal

pub returns : goal.returns
returns c = laws.receipt_each
