-- The writes so far are in the fields.
use Rattle.std.proofs.Common.{◌≡◌, take}
use Rattle.ecf_heap.specs.Overlaid.{store_of}
use Rattle.ecf_lang.specs.Store.{with_writes}
use Rattle.ecf_isolate.proofs.alone.write_all.Given as goal

abbrev pub invariant-loop-cell : goal.invariant-loop-cell
invariant-loop-cell g l = store_of l.fields ≡ with_writes (store_of l.fn.fields) (take l.cell-index l.writes)
