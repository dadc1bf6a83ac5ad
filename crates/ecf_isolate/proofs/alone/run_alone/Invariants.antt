-- The runs so far are those of the order's first part.
use Rattle.std.proofs.Common.{take}
use Rattle.ecf_heap.specs.Overlaid.{store_of}
use Rattle.ecf_isolate.specs.RunEnds.{AreLoneRuns}
use Rattle.ecf_removed.specs.LoneRuns.{lone_runs}
use Rattle.ecf_isolate.proofs.alone.run_alone.Given as goal

abbrev pub invariant-loop-inv : goal.invariant-loop-inv
invariant-loop-inv g l = AreLoneRuns (lone_runs l.typed l.invocations (take l.inv-index l.order) (g.R.CellRead.store l.before)) l.runs (store_of l.after)
