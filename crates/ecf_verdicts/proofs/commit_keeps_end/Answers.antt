use Rattle.ecf_verdicts.proofs.ReceiptLaws as laws
use Rattle.ecf_verdicts.proofs.commit_keeps_end.Goals as goal

pub returns : goal.returns
returns c = laws.commit_keeps_end
