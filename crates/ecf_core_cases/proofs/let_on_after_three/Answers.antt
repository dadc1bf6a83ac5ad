use Rattle.ecf_core_cases.proofs.WatchSteps as steps
use Rattle.ecf_core_cases.proofs.let_on_after_three.Goals as goal

pub returns : goal.returns
returns c = steps.let_on_after_three
