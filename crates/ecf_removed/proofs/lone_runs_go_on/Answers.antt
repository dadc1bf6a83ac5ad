use Rattle.ecf_removed.proofs.LoneRunLaws as proved
use Rattle.ecf_removed.proofs.lone_runs_go_on.Goals as goal

pub returns : goal.returns
returns c = proved.lone_runs_go_on
