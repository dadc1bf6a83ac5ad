use Rattle.ecf_core_cases.proofs.ThreeTimesSteps as steps
use Rattle.ecf_core_cases.proofs.stale_three_times.Goals as goal

pub returns : goal.returns
returns c = steps.goes
