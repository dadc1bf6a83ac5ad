use Rattle.ecf_core_cases.proofs.WatchSteps as steps
use Rattle.ecf_core_cases.proofs.capped_at_two.Goals as goal

pub returns : goal.returns
returns c = steps.capped_at_two
