use Rattle.ecf_core_cases.proofs.SeatSteps as steps
use Rattle.ecf_core_cases.proofs.two_seats.Goals as goal

pub returns : goal.returns
returns c = steps.two_seats
