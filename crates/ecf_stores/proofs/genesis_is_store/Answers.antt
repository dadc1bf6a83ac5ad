use Rattle.ecf_stores.specs.StoreLaws as proved
use Rattle.ecf_stores.proofs.genesis_is_store.Goals as goal

pub returns : goal.returns
returns c = proved.genesis_is_store
