use Rattle.ecf_online.proofs.ClosureLaws.{SpreadTo}
use Rattle.ecf_online.proofs.reach.spread_far.Given as goal

abbrev pub invariant-loop-k : goal.invariant-loop-k
invariant-loop-k l = SpreadTo l.initial.rows.items l.i l.j l.rows.items l.k
