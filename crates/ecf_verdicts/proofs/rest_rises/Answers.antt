use Rattle.ecf_verdicts.proofs.LeastLaws as laws
use Rattle.ecf_verdicts.proofs.rest_rises.Goals as goal

pub returns : goal.returns
returns c = laws.rest_rises
