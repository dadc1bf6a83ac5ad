use Rattle.ecf_core.proofs.StoreLaws as proved
use Rattle.ecf_core.proofs.store_is_store.Goals as goal

pub returns : goal.returns
returns c = proved.store_is_store c.run_keeps_store.ensures
