use Rattle.ecf_core.proofs.DraftedLaws as proved
use Rattle.ecf_core.proofs.run_is_drafted.Goals as goal

pub returns : goal.returns
returns c = proved.run_is_drafted c.run_stands.ensures c.same_reads_same_run.ensures
