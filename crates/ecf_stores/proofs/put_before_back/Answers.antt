use Rattle.ecf_stores.specs.CutLaws as proved
use Rattle.ecf_stores.proofs.put_before_back.Goals as goal

pub returns : goal.returns
returns c = proved.put_before_back
