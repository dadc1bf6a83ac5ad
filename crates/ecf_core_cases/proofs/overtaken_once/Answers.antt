use Rattle.ecf_core_cases.proofs.OvertakenSteps as steps
use Rattle.ecf_core_cases.proofs.overtaken_once.Goals as goal

pub returns : goal.returns
returns c = steps.goes
