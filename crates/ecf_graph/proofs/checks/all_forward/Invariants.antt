use Rattle.std.proofs.Common.{◌≡◌, drop}
use Rattle.std.specs.List.{list_all}
use Rattle.ecf_graph.specs.Checks.{goes_forward}
use Rattle.ecf_graph.proofs.checks.all_forward.Given as goal

abbrev pub invariant-loop-pair : goal.invariant-loop-pair
invariant-loop-pair l = list_all (goes_forward l.order) (drop l.pair-index l.pairs) ≡ list_all (goes_forward l.order) l.pairs
