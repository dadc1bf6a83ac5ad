use Rattle.std.proofs.Common.{◌-◌, length}
use Rattle.ecf_judge.proofs.WalkLaws.{IsOnWay}
use Rattle.ecf_judge.proofs.cycle.walk.Given as goal

abbrev pub invariant-loop-k : goal.invariant-loop-k
invariant-loop-k l = IsOnWay l.rest l.start l.rows (length l.rest - l.k) l.present l.path.items l.visited
