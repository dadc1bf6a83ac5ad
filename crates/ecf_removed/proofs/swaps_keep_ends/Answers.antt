use Rattle.ecf_removed.proofs.SwapLaws as proved
use Rattle.ecf_removed.proofs.swaps_keep_ends.Goals as goal

pub returns : goal.returns
returns c = proved.swaps_keep_ends
