use Rattle.ecf_core.proofs.SeatLaws as proved
use Rattle.ecf_core.proofs.unshared_both_ways.Goals as goal

pub returns : goal.returns
returns c = proved.unshared_both_ways
