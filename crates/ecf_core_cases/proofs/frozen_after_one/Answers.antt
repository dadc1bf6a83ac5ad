use Rattle.ecf_core_cases.proofs.WatchSteps as steps
use Rattle.ecf_core_cases.proofs.frozen_after_one.Goals as goal

pub returns : goal.returns
returns c = steps.frozen_after_one
