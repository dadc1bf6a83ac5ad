use Rattle.ecf_stores.specs.StoreLaws as proved
use Rattle.ecf_stores.proofs.same_reads_same_store.Goals as goal

pub returns : goal.returns
returns c = proved.same_reads_same_store
