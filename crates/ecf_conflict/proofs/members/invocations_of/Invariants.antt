use Rattle.std.proofs.Common.{◌≡◌, ◌≤◌, ◌<◌, ◌==◌, ℕ, true, take}
use Rattle.std.specs.List.{list_any}
use Rattle.ecf_graph.specs.Rows.{is_member}
use Rattle.ecf_conflict.proofs.members.invocations_of.Given as goal

abbrev pub invariant-loop-step : goal.invariant-loop-step
invariant-loop-step l = record {
  members : (i : ℕ) → is_member l.row i ≡ list_any (λ s. s.inv == i) (take l.step-index l.steps);
  above : (i : ℕ) → list_any (λ s. s.inv == i) (take l.step-index l.steps) ≡ true → i < l.count;
  small : l.count ≤ 65536;
}
