use Rattle.std.proofs.Common.{◌≡◌, ◌++◌, ◌==◌, ◌&&◌, not, drop}
use Rattle.ecf_conflict.specs.Pairs.{pairs_over, pairs_of}
use Rattle.ecf_graph.specs.Rows.{is_in_row}
use Rattle.ecf_conflict.proofs.edges.pairs_in.Given as goal

abbrev pub invariant-loop-i : goal.invariant-loop-i
invariant-loop-i l = l.pairs.items ++ pairs_over (λ a b. not (a == b) && is_in_row l.rows b a) l.members (drop l.i-index l.members) ≡ pairs_of (λ a b. not (a == b) && is_in_row l.rows b a) l.members
