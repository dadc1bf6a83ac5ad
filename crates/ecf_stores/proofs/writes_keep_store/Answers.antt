use Rattle.ecf_stores.specs.StoreLaws as proved
use Rattle.ecf_stores.proofs.writes_keep_store.Goals as goal

pub returns : goal.returns
returns c = proved.writes_keep_store
