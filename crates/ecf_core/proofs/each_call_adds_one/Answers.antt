use Rattle.ecf_core.proofs.SeatLaws as proved
use Rattle.ecf_core.proofs.each_call_adds_one.Goals as goal

pub returns : goal.returns
returns c = proved.each_call_adds_one
