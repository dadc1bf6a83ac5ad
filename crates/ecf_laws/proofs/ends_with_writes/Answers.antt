use Rattle.ecf_laws.proofs.EndLaws as proved
use Rattle.ecf_laws.proofs.ends_with_writes.Goals as goal

pub returns : goal.returns
returns c = proved.ends_with_writes
