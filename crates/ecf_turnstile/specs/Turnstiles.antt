-- Which turnstile a seat is of. `opening_of` gives a value's opening.
use Rattle.std.specs.Prelude.{Option}
use Rattle.atomic_table.specs.Seated.{TableId}
use Rattle.atomic_table.specs.declared.shared.Seat.{Seat}
use Rattle.ecf_turnstile.specs.declared.view.View.{View}
use Rattle.ecf_turnstile.specs.declared.turnstile.Turnstile.{Turnstile}
use Rattle.ecf_turnstile.specs.Seats.{IsSeat, HasTurn}

module _ {B O E : Type 0} where
  -- which turnstile it is
  abbrev pub name_of : Turnstile B O E → TableId
  name_of t = t.table.shared.table_id

  -- the value that it was made with
  abbrev pub first_value : Turnstile B O E → B
  first_value t = t.table.shared.key.value

  -- a seat of this turnstile: it came from `new`, or was made from such a seat
  abbrev pub IsSeatOf : (B → O) → Turnstile B O E → Seat (Option B) (View O E) → Type 0
  IsSeatOf opening_of t s = IsSeat (name_of t) (opening_of (first_value t)) s

  -- a seat of this turnstile that has the turn
  abbrev pub HasTurnOf : (B → O) → Turnstile B O E → Seat (Option B) (View O E) → Type 0
  HasTurnOf opening_of t s = HasTurn (name_of t) (opening_of (first_value t)) s
