use Rattle.std.proofs.Common.{◌≡◌, drop}
use Rattle.ecf_graph.specs.Rows.{those_in}
use Rattle.ecf_graph.proofs.placement.first_left.Given as goal

abbrev pub invariant-loop-at : goal.invariant-loop-at
invariant-loop-at l = those_in l.left (drop l.at l.members) ≡ those_in l.left l.members
