use Rattle.std.proofs.Common.{◌≡◌, drop}
use Rattle.ecf_verdicts.specs.Cycles.{minimum}
use Rattle.ecf_judge.proofs.cycle.minimum.Given as goal

abbrev pub invariant-loop-i : goal.invariant-loop-i
invariant-loop-i l = minimum l.least (drop l.i-index l.rest) ≡ minimum l.first l.rest
