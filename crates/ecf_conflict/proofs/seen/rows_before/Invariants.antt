use Rattle.std.proofs.Common.{take}
use Rattle.ecf_conflict.specs.Seen.{IsSeen}
use Rattle.ecf_conflict.proofs.seen.rows_before.Given as goal

abbrev pub invariant-loop-step : goal.invariant-loop-step
invariant-loop-step l = IsSeen (take l.step-index l.steps) l.seen.cells.keys l.seen.touched.items l.seen.written.items l.seen.earlier.items
