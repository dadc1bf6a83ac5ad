use Rattle.ecf_stores.specs.StoreLaws as proved
use Rattle.ecf_stores.proofs.put_keeps_store.Goals as goal

pub returns : goal.returns
returns c = proved.put_keeps_store
