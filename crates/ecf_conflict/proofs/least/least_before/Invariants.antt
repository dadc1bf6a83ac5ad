use Rattle.std.proofs.Common.{take}
use Rattle.ecf_verdicts.specs.Before.{before}
use Rattle.ecf_conflict.specs.Least.{TellsLeast}
use Rattle.ecf_conflict.proofs.least.least_before.Given as goal

abbrev pub invariant-loop-i : goal.invariant-loop-i
invariant-loop-i l = TellsLeast (λ i. before l.steps i l.inv) (take l.i-index l.rest) l.least
