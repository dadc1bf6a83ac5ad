use Rattle.std.proofs.Common.{◌≡◌, ℕ, ◌<◌, true}
use Rattle.ecf_book.specs.Recorded.{state_of}
use Rattle.ecf_core.specs.Book.{is_done, row_at}
use Rattle.ecf_pool.proofs.rounds.all_done.Given as goal

-- the rows so far are Done
abbrev pub invariant-loop-row : goal.invariant-loop-row
invariant-loop-row l = (r : ℕ) → r < l.row → is_done (row_at (state_of l.book) r) ≡ true
