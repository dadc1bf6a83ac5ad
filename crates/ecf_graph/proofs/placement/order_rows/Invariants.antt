use Rattle.std.proofs.Common.{◌≡◌, ◌==◌, ◌-◌, ℕ, false, None, drop, length}
use Rattle.std.specs.List.{list_any}
use Rattle.ecf_graph.specs.Rows.{is_in_row, is_member, those_in}
use Rattle.ecf_graph.specs.Placement.{next_of, placement_of}
use Rattle.ecf_graph.proofs.RoundLaws.{Left}
use Rattle.ecf_graph.proofs.placement.order_rows.Given as goal

abbrev pub invariant-loop-k : goal.invariant-loop-k
invariant-loop-k l = record {
  from : those_in l.left (drop l.from l.members) ≡ those_in l.left l.members;
  set : (i : ℕ) → is_member l.left i ≡ list_any (λ x. x == i) (those_in l.left l.members);
  left : Left (λ a b. is_in_row l.rows b a) (placement_of (λ a b. is_in_row l.rows b a) l.members) (length l.members - l.k) l.placed.items (those_in l.left l.members);
  stuck : l.more ≡ false → next_of (λ a b. is_in_row l.rows b a) (those_in l.left l.members) ≡ None;
}
