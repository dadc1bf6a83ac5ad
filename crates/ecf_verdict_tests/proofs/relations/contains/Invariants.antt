use Rattle.std.proofs.Common.{◌≡◌, drop}
use Rattle.ecf_graph.specs.Checks.{stands_in}
use Rattle.ecf_verdict_tests.proofs.relations.contains.Given as goal

abbrev pub invariant-loop-x : goal.invariant-loop-x
invariant-loop-x l = stands_in (drop l.x-index l.list) l.i ≡ stands_in l.list l.i
