use Rattle.ecf_stores.specs.StoreLaws as proved
use Rattle.ecf_stores.proofs.writes_go_on.Goals as goal

pub returns : goal.returns
returns c = proved.writes_go_on
