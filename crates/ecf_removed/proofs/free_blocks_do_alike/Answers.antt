use Rattle.ecf_removed.proofs.BlockLaws as proved
use Rattle.ecf_removed.proofs.free_blocks_do_alike.Goals as goal

pub returns : goal.returns
returns c = proved.free_blocks_do_alike c.free_in_blocks.ensures
