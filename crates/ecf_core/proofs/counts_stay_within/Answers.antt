use Rattle.ecf_core.proofs.WatchLaws as proved
use Rattle.ecf_core.proofs.counts_stay_within.Goals as goal

pub returns : goal.returns
returns c = proved.counts_stay_within
