use Rattle.std.proofs.Common.{◌≡◌, not, find, drop}
use Rattle.ecf_graph.specs.Rows.{is_in_row, those_in}
use Rattle.ecf_graph.specs.Placement.{next_of, waits}
use Rattle.ecf_graph.proofs.placement.next.Given as goal

abbrev pub invariant-loop-at : goal.invariant-loop-at
invariant-loop-at l = find (λ j. not (waits (λ a b. is_in_row l.rows b a) (those_in l.left l.members) j)) (those_in l.left (drop l.at l.members)) ≡ next_of (λ a b. is_in_row l.rows b a) (those_in l.left l.members)
