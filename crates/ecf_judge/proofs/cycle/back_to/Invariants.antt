use Rattle.std.proofs.Common.{◌≡◌, ◌++◌, reverse, vec_len}
use Rattle.ecf_verdicts.specs.Cycles.{up_to}
use Rattle.ecf_judge.proofs.cycle.back_to.Given as goal

abbrev pub invariant-back : goal.invariant-back
invariant-back l = l.part.items ++ up_to l.i (reverse l.path.items) ≡ up_to l.i (reverse l.initial.path.items)

abbrev pub decreases-back : goal.decreases-back
decreases-back l = vec_len l.path
