use Rattle.std.proofs.Common.{◌≡◌, drop}
use Rattle.ecf_graph.specs.Checks.{is_distinct}
use Rattle.ecf_graph.proofs.checks.has_no_twin.Given as goal

abbrev pub invariant-loop-k : goal.invariant-loop-k
invariant-loop-k l = is_distinct (drop l.k l.list) ≡ is_distinct l.list
