use Rattle.ecf_core.proofs.SeatLaws as proved
use Rattle.ecf_core.proofs.join_keeps_unshared.Goals as goal

pub returns : goal.returns
returns c = proved.join_keeps_unshared
