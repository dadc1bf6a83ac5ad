use Rattle.std.proofs.Common.{◌≡◌, ℕ, ◌-◌, ◌≤◌, [], length, get_or, max, vec_len}
use Rattle.ecf_graph.specs.Rows.{is_in_row}
use Rattle.ecf_graph.proofs.rows.extend_rows.Given as goal

abbrev pub invariant-rows : goal.invariant-rows
invariant-rows l = record {
  same : (k i : ℕ) → is_in_row l.rows.items k i ≡ is_in_row l.initial.rows.items k i;
  words : (k : ℕ) → length (get_or l.rows.items k []) ≡ length (get_or l.initial.rows.items k []);
  from : vec_len l.initial.rows ≤ vec_len l.rows;
  upto : vec_len l.rows ≤ max l.most (vec_len l.initial.rows);
}

abbrev pub decreases-rows : goal.decreases-rows
decreases-rows l = l.most - vec_len l.rows
