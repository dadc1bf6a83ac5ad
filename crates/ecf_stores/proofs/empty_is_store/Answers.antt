use Rattle.ecf_stores.specs.StoreLaws as proved
use Rattle.ecf_stores.proofs.empty_is_store.Goals as goal

pub returns : goal.returns
returns c = proved.empty_is_store
