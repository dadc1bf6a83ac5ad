use Rattle.ecf_verdicts.proofs.LeastLaws as laws
use Rattle.ecf_verdicts.proofs.step_is_least.Goals as goal

pub returns : goal.returns
returns c = laws.step_is_least
