-- The pairs so far and those to come are the map's.
use Rattle.std.proofs.Common.{◌≡◌, ◌++◌}
use Rattle.ecf_heap.proofs.overlay.Overlay.writes.Given as goal

abbrev pub invariant-loop-cell : goal.invariant-loop-cell
invariant-loop-cell g l = l.cells.items ++ l.cell-iterator ≡ l.self.written
