use Rattle.ecf_core.proofs.RoundLaws as proved
use Rattle.ecf_core.proofs.last_stale_is_logged.Goals as goal

pub returns : goal.returns
returns c = proved.last_stale_is_logged
