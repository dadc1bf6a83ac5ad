-- What a seat at the turn knows of the book's history, in the words of the core.
use Rattle.std.specs.Prelude.{◌≡◌, true, Option, MatchOption}
use Rattle.atomic_table.specs.declared.shared.Seat.{Seat as TableSeat}
use Rattle.ecf_book.specs.declared.setup.Setup.{Setup}
use Rattle.ecf_book.specs.Answering.{takes_memory}
use Rattle.ecf_book.specs.Recorded.{Recorded}
use Rattle.ecf_core.specs.declared.book.LogEntry.{LogEntry}
use Rattle.ecf_core.specs.declared.event.Reply.{Reply}
use Rattle.ecf_core.specs.Book.{Opening, Book, after}
use Rattle.ecf_core.specs.Calls.{Answer}
use Rattle.ecf_core.specs.Seats.{Seat, BeginsWith, HasCalled}
use Rattle.ecf_turnstile.specs.declared.view.View.{View}
use Rattle.ecf_turnstile.specs.Seats.{seen_by, own_of}

-- a seat of the turnstile: what it has seen of the history, and its own entries
abbrev pub as_seat : {B O : Type 0} → TableSeat (Option B) (View O LogEntry) → Seat
as_seat s = record { seen = seen_by s; mine = own_of s }

-- the book as far as the seat has seen it
abbrev pub seen_book : Setup → Seat → Recorded
seen_book setup seat = record { setup = setup; entries = seat.seen }

-- memory was wanting for a call: it added no entry, and the answer that was due after all that the seat has seen takes memory
pub record HasFailed (o : Opening) (call : Book → Answer) (before later : Seat) : Type 0 where
  pub begins : BeginsWith later.seen before.seen
  pub mine : later.mine ≡ before.mine
  pub cause : takes_memory (call (after o later.seen)).reply ≡ true

-- a call that says this is one of one legal history, or, where it says nothing, memory was wanting for it
abbrev pub Answers : Opening → (Book → Answer) → Option Reply → Seat → Seat → Type 0
Answers o call said before later = MatchOption said (HasFailed o call before later) (λ reply. HasCalled o call reply before later)
