use Rattle.std.proofs.Common.{◌≡◌, ℕ, take}
use Rattle.ecf_graph.specs.Pairs.{joins}
use Rattle.ecf_graph.specs.Rows.{is_in_row}
use Rattle.ecf_graph.proofs.edges.rows_of.Given as goal

abbrev pub invariant-loop-pair : goal.invariant-loop-pair
invariant-loop-pair l = (a b : ℕ) → is_in_row l.rows.items b a ≡ joins (take l.pair-index l.pairs) a b
