use Rattle.ecf_stores.specs.CutLaws as proved
use Rattle.ecf_stores.proofs.find_in_parts.Goals as goal

pub returns : goal.returns
returns c = proved.find_in_parts
