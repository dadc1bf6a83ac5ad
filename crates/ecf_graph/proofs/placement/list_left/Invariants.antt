use Rattle.std.proofs.Common.{◌≡◌, ◌++◌, drop}
use Rattle.ecf_graph.specs.Rows.{those_in}
use Rattle.ecf_graph.proofs.placement.list_left.Given as goal

abbrev pub invariant-loop-i : goal.invariant-loop-i
invariant-loop-i l = l.list.items ++ those_in l.left (drop l.i-index l.members) ≡ those_in l.left l.members
