-- What a round leaves of a book.
use Rattle.std.specs.Prelude.{◌≡◌, ℕ, ◌+◌, ◌-◌, ◌^◌, true, not, List, take, All, min, count_by}
use Rattle.ecf_book.specs.Recorded.{Recorded, state_of}
use Rattle.ecf_core.specs.declared.book.LogEntry.{LogEntry}
use Rattle.ecf_core.specs.Book.{is_done}
use Rattle.ecf_core.specs.Rounds.{IsRound}
use Rattle.ecf_core.specs.Seats.{BeginsWith}

-- the contract and the transactions are the same, and the history begins with the one that was there
pub record HasBegun (before later : Recorded) : Type 0 where
  pub setup : later.setup ≡ before.setup
  pub begins : BeginsWith later.entries before.entries

-- all rows are Done
abbrev pub AllDone : Recorded → Type 0
AllDone b = All (λ row. is_done row ≡ true) (state_of b).rows

-- The contract and the transactions are the same, the history has what workers and monitors may add, and all rows are Done.
-- Rows were given back, and placed at the end, only where threads may give up.
pub record IsAfterRound (may : Type 0) (before later : Recorded) : Type 0 where
  pub setup : later.setup ≡ before.setup
  pub round : IsRound may before.entries later.entries
  pub done : AllDone later

-- from a place of a history on stands what workers and monitors may add
abbrev pub IsRoundFrom : Type 0 → ℕ → List LogEntry → Type 0
IsRoundFrom may from entries = IsRound may (take from entries) entries

-- how many rows aren't Done
abbrev pub open_rows : Recorded → ℕ
open_rows b = count_by (λ row. not (is_done row)) (state_of b).rows

-- a count with so many more, which ends at 2^64 - 1
abbrev pub counted_up : ℕ → ℕ → ℕ
counted_up count more = min (count + more) (2 ^ 64 - 1)
