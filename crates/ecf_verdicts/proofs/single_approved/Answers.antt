use Rattle.ecf_verdicts.proofs.SingleLaws as laws
use Rattle.ecf_verdicts.proofs.single_approved.Goals as goal

pub returns : goal.returns
returns c = laws.single_approved
