use Rattle.ecf_stores.specs.StoreLaws as proved
use Rattle.ecf_stores.proofs.read_after_writes.Goals as goal

pub returns : goal.returns
returns c = proved.read_after_writes
