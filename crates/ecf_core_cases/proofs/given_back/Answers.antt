use Rattle.ecf_core_cases.proofs.GivenBackSteps as steps
use Rattle.ecf_core_cases.proofs.given_back.Goals as goal

pub returns : goal.returns
returns c = steps.goes
