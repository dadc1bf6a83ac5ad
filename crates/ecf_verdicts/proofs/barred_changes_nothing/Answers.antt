use Rattle.ecf_verdicts.proofs.ReceiptLaws as laws
use Rattle.ecf_verdicts.proofs.barred_changes_nothing.Goals as goal

pub returns : goal.returns
returns c = laws.barred_changes_nothing
