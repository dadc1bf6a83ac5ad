use Rattle.ecf_precedence.proofs.PlacementLaws as proved
use Rattle.ecf_precedence.proofs.placement_by_reach.Goals as goal

pub returns : goal.returns
returns c = proved.placement_by_reach
