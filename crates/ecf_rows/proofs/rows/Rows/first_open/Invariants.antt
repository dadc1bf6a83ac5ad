use Rattle.std.proofs.Common.{◌≡◌, ℕ, ◌<◌, ◌≤◌, true}
use Rattle.ecf_core.specs.Book.{is_done}
use Rattle.ecf_rows.specs.Standing.{state_at}
use Rattle.ecf_rows.proofs.rows.Rows.first_open.Given as goal

-- from the place on all rows so far are Done
abbrev pub invariant-loop-row : goal.invariant-loop-row
invariant-loop-row l = (q : ℕ) → l.from ≤ q → q < l.row → is_done (state_at l.self q) ≡ true
