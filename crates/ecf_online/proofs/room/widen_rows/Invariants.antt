use Rattle.std.proofs.Common.{◌≡◌, ◌<◌, ◌≤◌, ℕ, [], length, get_or, vec_len}
use Rattle.ecf_online.specs.Closure.{IsReady}
use Rattle.ecf_online.specs.Widening.{RowsWider}
use Rattle.ecf_online.proofs.room.widen_rows.Given as goal

abbrev pub invariant-loop-k : goal.invariant-loop-k
invariant-loop-k l = record {
  wider : RowsWider l.initial.rows.items l.rows.items;
  wide : (b : ℕ) → b < l.k → IsReady l.rows.items b → l.width ≤ length (get_or l.rows.items b []);
  long : vec_len l.rows ≡ vec_len l.initial.rows;
}
