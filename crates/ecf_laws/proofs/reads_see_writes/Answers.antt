use Rattle.ecf_laws.proofs.ReplayLaws as proved
use Rattle.ecf_laws.proofs.reads_see_writes.Goals as goal

pub returns : goal.returns
returns c = proved.reads_see_writes
