use Rattle.std.proofs.Common.{◌≡◌, drop}
use Rattle.ecf_graph.specs.Checks.{all_stand_in}
use Rattle.ecf_graph.proofs.checks.all_in.Given as goal

abbrev pub invariant-loop-i : goal.invariant-loop-i
invariant-loop-i l = all_stand_in (drop l.i-index l.list) l.other ≡ all_stand_in l.list l.other
