use Rattle.std.proofs.Common.{◌≡◌, drop, get_or}
use Rattle.ecf_graph.specs.Checks.{leads_to}
use Rattle.ecf_graph.proofs.checks.goes_around.Given as goal

abbrev pub invariant-loop-k : goal.invariant-loop-k
invariant-loop-k l = leads_to l.pairs (get_or l.cycle 0 0) (drop l.k l.cycle) ≡ leads_to l.pairs (get_or l.cycle 0 0) l.cycle
