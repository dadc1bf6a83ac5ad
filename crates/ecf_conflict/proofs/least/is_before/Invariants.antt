use Rattle.std.proofs.Common.{◌≡◌, drop}
use Rattle.ecf_verdicts.specs.Before.{before}
use Rattle.ecf_conflict.proofs.least.is_before.Given as goal

abbrev pub invariant-loop-k : goal.invariant-loop-k
invariant-loop-k l = before (drop l.k l.steps) l.i l.j ≡ before l.steps l.i l.j
