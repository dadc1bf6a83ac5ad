use Rattle.ecf_laws.proofs.DraftLaws as proved
use Rattle.ecf_laws.proofs.reads_are_stored.Goals as goal

pub returns : goal.returns
returns c = proved.reads_are_stored
