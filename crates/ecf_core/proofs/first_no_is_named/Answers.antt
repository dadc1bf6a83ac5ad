use Rattle.ecf_core.proofs.WatchLaws as proved
use Rattle.ecf_core.proofs.first_no_is_named.Goals as goal

pub returns : goal.returns
returns c = proved.first_no_is_named
