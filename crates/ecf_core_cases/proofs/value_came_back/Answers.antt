use Rattle.ecf_core_cases.proofs.CameBackSteps as steps
use Rattle.ecf_core_cases.proofs.value_came_back.Goals as goal

pub returns : goal.returns
returns c = steps.goes
