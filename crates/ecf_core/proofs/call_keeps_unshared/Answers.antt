use Rattle.ecf_core.proofs.SeatLaws as proved
use Rattle.ecf_core.proofs.call_keeps_unshared.Goals as goal

pub returns : goal.returns
returns c = proved.call_keeps_unshared
