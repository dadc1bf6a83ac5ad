use Rattle.ecf_verdicts.proofs.LeastLaws as laws
use Rattle.ecf_verdicts.proofs.next_is_least.Goals as goal

pub returns : goal.returns
returns c = laws.next_is_least
