use Rattle.ecf_core.proofs.SeatLaws as proved
use Rattle.ecf_core.proofs.split_keeps_seats.Goals as goal

pub returns : goal.returns
returns c = proved.split_keeps_seats
