use Rattle.std.proofs.Common.{◌≡◌, ◌++◌, replicate}
use Rattle.ecf_progress.specs.Segments.{with_top}
use Rattle.ecf_progress.proofs.segments.Segments.fill.Given as goal

abbrev pub invariant-loop : goal.invariant-loop
invariant-loop l = l.self ≡ with_top l.fn.self (l.fn.self.top ++ replicate l.counter 0)
