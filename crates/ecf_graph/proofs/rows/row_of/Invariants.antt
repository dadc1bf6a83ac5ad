use Rattle.std.proofs.Common.{◌≡◌, ◌==◌, ℕ, take}
use Rattle.std.specs.List.{list_any}
use Rattle.ecf_graph.specs.Rows.{is_member}
use Rattle.ecf_graph.proofs.rows.row_of.Given as goal

abbrev pub invariant-loop-i : goal.invariant-loop-i
invariant-loop-i l = (i : ℕ) → is_member l.row i ≡ list_any (λ x. x == i) (take l.i-index l.list)
