use Rattle.std.proofs.Common.{◌≡◌, drop}
use Rattle.ecf_graph.specs.Pairs.{joins}
use Rattle.ecf_graph.proofs.checks.has_pair.Given as goal

abbrev pub invariant-loop-pair : goal.invariant-loop-pair
invariant-loop-pair l = joins (drop l.pair-index l.pairs) l.i l.j ≡ joins l.pairs l.i l.j
