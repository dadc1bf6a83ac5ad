use Rattle.std.proofs.Common.{◌≤◌, drop, length}
use Rattle.ecf_progress.specs.ReadCells.{FindAlike}
use Rattle.ecf_progress.proofs.reads.put_all.Given as goal

-- the map is that of the pairs from here on
abbrev pub invariant-loop-left : goal.invariant-loop-left
invariant-loop-left l = (l.left ≤ length l.pairs) × FindAlike l.map.entries (drop l.left l.pairs)

abbrev pub decreases-loop-left : goal.decreases-loop-left
decreases-loop-left l = l.left
