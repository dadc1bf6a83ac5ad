use Rattle.std.proofs.Common.{◌≡◌, ◌≤◌}
use Rattle.std.specs.Prelude.{take, not, count_by}
use Rattle.ecf_book.specs.Recorded.{state_of}
use Rattle.ecf_core.specs.Book.{is_done}
use Rattle.ecf_pool.proofs.crews.open_rows_of.Given as goal

-- so many of the rows so far aren't Done
abbrev pub invariant-loop-row : goal.invariant-loop-row
invariant-loop-row l = (l.open ≡ count_by (λ row. not (is_done row)) (take l.row (state_of l.book).rows)) × (l.open ≤ l.row)
