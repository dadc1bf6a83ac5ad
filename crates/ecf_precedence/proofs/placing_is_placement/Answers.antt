use Rattle.ecf_precedence.proofs.PlacementLaws as proved
use Rattle.ecf_precedence.proofs.placing_is_placement.Goals as goal

pub returns : goal.returns
returns c = proved.placing_is_placement
