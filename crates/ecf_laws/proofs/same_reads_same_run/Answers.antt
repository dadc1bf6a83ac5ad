use Rattle.ecf_laws.proofs.DraftLaws as proved
use Rattle.ecf_laws.proofs.same_reads_same_run.Goals as goal

pub returns : goal.returns
returns c = proved.same_reads_same_run
