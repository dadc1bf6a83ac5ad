-- A free trace, by blocks in its named order.
use Rattle.ecf_verdicts.specs.Blocks.{blocks}
use Rattle.ecf_verdicts.specs.Laws.{FreeInBlocks}
use Rattle.ecf_verdicts.specs.Placing.{placing}
use Rattle.ecf_removed.specs.Laws.{FreeBlocksDoAlike}
use Rattle.ecf_removed.proofs.SwapLaws.{swaps_keep_reads, swaps_keep_ends}

pub free_blocks_do_alike : FreeInBlocks → FreeBlocksDoAlike
free_blocks_do_alike free_in_blocks t free contents reads =
    let into = free_in_blocks t free in
    record {
      reads = swaps_keep_reads t into.0 (blocks t (placing t).order) into.1 contents reads;
      ends = swaps_keep_ends t into.0 (blocks t (placing t).order) into.1 contents;
    }
