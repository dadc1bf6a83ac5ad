-- The writes so far are in the heap.
use Rattle.std.proofs.Common.{◌≡◌, take}
use Rattle.ecf_lang.specs.Store.{with_writes}
use Rattle.ecf_heap.proofs.heap.Heap.write.Given as goal

abbrev pub invariant-loop-cell : goal.invariant-loop-cell
invariant-loop-cell l = l.self ≡ with_writes l.fn.self (take l.cell-index l.writes)
