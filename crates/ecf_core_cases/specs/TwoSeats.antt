-- Two seats at one book: the first claims a row and is split, the second claims another, the first commits, and both are joined.
use Rattle.std.specs.Prelude.{◌≡◌, ℕ, List, [], ◌∷◌}
use Rattle.ecf_core.specs.declared.book.LogEntry.{LogEntry}
use Rattle.ecf_core.specs.declared.book.LogWhat.TheVariants as log
use Rattle.ecf_core.specs.declared.event.Reply.TheVariants as reply
use Rattle.ecf_core.specs.Book.{Opening, Book}
use Rattle.ecf_core.specs.Calls.{Answer, claim, commit}
use Rattle.ecf_core.specs.Seats.{Seat, HasCalled, split_seat, join_seats}
use Rattle.ecf_core_cases.specs.Adder.{add, x}
use Rattle.ecf_core_cases.specs.Schedules.{opening, entry}

-- two transactions of two submitters
abbrev pub both : Opening
both = opening (add 1 1 ∷ add 2 10 ∷ [])

-- a seat by what it has seen and its own entries
abbrev pub seat : List LogEntry → List (ℕ × LogEntry) → Seat
seat seen mine = record { seen = seen; mine = mine }

-- the three entries
abbrev pub first_claim : LogEntry
first_claim = entry 0 1 log.Claimed

abbrev pub second_claim : LogEntry
second_claim = entry 1 2 log.Claimed

abbrev pub first_commit : LogEntry
first_commit = entry 0 1 (log.Placed 1)

-- the first row committed, of whose run x was 5
abbrev pub commit_first : Book → Answer
commit_first b = commit b 0 1 ((x, 5) ∷ [])

-- the first seat has claimed
abbrev pub one : Seat
one = seat (first_claim ∷ []) ((0, first_claim) ∷ [])

-- the second one too
abbrev pub other : Seat
other = seat (first_claim ∷ second_claim ∷ []) ((1, second_claim) ∷ [])

-- and the first has committed
abbrev pub one_later : Seat
one_later = seat (first_claim ∷ second_claim ∷ first_commit ∷ []) ((0, first_claim) ∷ (2, first_commit) ∷ [])

-- the three calls, and the seat in the end: it has seen the whole history, and all three entries are its own
pub record TwoSeats : Type 0 where
  pub claims : HasCalled both (claim both) (reply.Work 0) (seat [] []) one
  pub claims_too : HasCalled both (claim both) (reply.Work 1) (split_seat one).1 other
  pub commits : HasCalled both commit_first (reply.Placed 1) (split_seat one).0 one_later
  pub joined : join_seats one_later other ≡
      seat (first_claim ∷ second_claim ∷ first_commit ∷ []) ((0, first_claim) ∷ (2, first_commit) ∷ (1, second_claim) ∷ [])
