use Rattle.std.proofs.Common.{◌≡◌, ◌≤◌, ℕ, [], length, get_or, take}
use Rattle.ecf_graph.specs.Pairs.{joins}
use Rattle.ecf_online.specs.Closure.{HoldsReaching, IsClosure, IsShaped}
use Rattle.ecf_online.proofs.reach.add_pairs.Given as goal

abbrev pub invariant-loop-at : goal.invariant-loop-at
invariant-loop-at l = record {
  from : l.from ≤ l.at;
  closure : IsClosure (joins (take l.from l.pairs)) l.initial.rows.items → IsClosure (joins (take l.at l.pairs)) l.rows.items;
  shaped : IsShaped l.rows.items;
  words : (b : ℕ) → length (get_or l.rows.items b []) ≡ length (get_or l.initial.rows.items b []);
  reaching : HoldsReaching l.rows.items l.reaching;
  reaching_words : length l.reaching ≡ length l.initial.reaching;
}
