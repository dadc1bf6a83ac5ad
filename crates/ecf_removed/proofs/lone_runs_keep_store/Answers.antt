use Rattle.ecf_removed.proofs.LoneRunLaws as proved
use Rattle.ecf_removed.proofs.lone_runs_keep_store.Goals as goal

pub returns : goal.returns
returns c = proved.lone_runs_keep_store
