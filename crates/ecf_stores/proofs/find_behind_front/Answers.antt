use Rattle.ecf_stores.specs.CutLaws as proved
use Rattle.ecf_stores.proofs.find_behind_front.Goals as goal

pub returns : goal.returns
returns c = proved.find_behind_front
