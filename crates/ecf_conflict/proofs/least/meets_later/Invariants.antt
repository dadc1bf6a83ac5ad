use Rattle.std.proofs.Common.{◌≡◌, ◌&&◌, ◌==◌, drop}
use Rattle.std.specs.List.{list_any}
use Rattle.ecf_verdicts.specs.Conflicts.{conflicts}
use Rattle.ecf_conflict.proofs.least.meets_later.Given as goal

abbrev pub invariant-loop-k : goal.invariant-loop-k
invariant-loop-k l = list_any (λ u. (u.inv == l.j) && conflicts l.step u) (drop l.k l.steps) ≡ list_any (λ u. (u.inv == l.j) && conflicts l.step u) (drop l.from l.steps)
