use Rattle.ecf_core.proofs.GrowthLaws as proved
use Rattle.ecf_core.proofs.commit_is_right.Goals as goal

pub returns : goal.returns
returns c = proved.commit_is_right
