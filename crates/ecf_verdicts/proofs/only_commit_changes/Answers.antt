use Rattle.ecf_verdicts.proofs.ReceiptLaws as laws
use Rattle.ecf_verdicts.proofs.only_commit_changes.Goals as goal

pub returns : goal.returns
returns c = laws.only_commit_changes
