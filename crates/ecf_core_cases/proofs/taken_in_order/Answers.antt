use Rattle.ecf_core_cases.proofs.TakenInOrderSteps as steps
use Rattle.ecf_core_cases.proofs.taken_in_order.Goals as goal

pub returns : goal.returns
returns c = steps.goes
