use Rattle.std.proofs.Common.{◌≡◌, ◌++◌, ◌==◌, ◌&&◌, not, drop}
use Rattle.ecf_conflict.specs.Pairs.{pairs_from}
use Rattle.ecf_graph.specs.Rows.{is_in_row}
use Rattle.ecf_conflict.proofs.edges.add_pairs.Given as goal

abbrev pub invariant-loop-j : goal.invariant-loop-j
invariant-loop-j l = l.pairs.items ++ pairs_from (λ a b. not (a == b) && is_in_row l.rows b a) (drop l.j-index l.members) l.i ≡ l.initial.pairs.items ++ pairs_from (λ a b. not (a == b) && is_in_row l.rows b a) l.members l.i
