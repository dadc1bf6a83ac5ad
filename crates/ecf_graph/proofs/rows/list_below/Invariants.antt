use Rattle.std.proofs.Common.{◌≡◌}
use Rattle.ecf_graph.specs.Rows.{is_member}
use Rattle.ecf_graph.specs.Rows.{numbers_below}
use Rattle.ecf_graph.proofs.rows.list_below.Given as goal

abbrev pub invariant-loop-i : goal.invariant-loop-i
invariant-loop-i l = l.list.items ≡ numbers_below (is_member l.row) l.i
