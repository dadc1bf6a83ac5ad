use Rattle.ecf_core_cases.proofs.FourLostSteps as steps
use Rattle.ecf_core_cases.proofs.four_claims_lost.Goals as goal

pub returns : goal.returns
returns c = steps.goes
