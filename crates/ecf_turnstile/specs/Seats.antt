-- What a contract says of a seat.
use Rattle.std.specs.Prelude.{◌≡◌, ℕ, List, [], ◌∷◌, Option, Some, None}
use Rattle.atomic_table.specs.Seated.{TableId}
use Rattle.atomic_table.specs.declared.shared.Seat.{Seat}
use Rattle.ecf_turnstile.specs.declared.view.Phase.TheVariants.{Served}
use Rattle.ecf_turnstile.specs.declared.view.View.{View}
use Rattle.ecf_turnstile.specs.Histories.{StandIn, AreApart}

module _ {B O E : Type 0} where
  -- the first part of the history, as far as the seat has seen it
  abbrev pub seen_by : Seat (Option B) (View O E) → List E
  seen_by s = s.me.0.seen

  -- the entries of the seat's own calls, each with its place in the history
  abbrev pub own_of : Seat (Option B) (View O E) → List (ℕ × E)
  own_of s = s.me.0.mine

  -- a seat of the turnstile with this name, whose value has this opening
  pub record IsSeat (name : TableId) (opening : O) (s : Seat (Option B) (View O E)) : Type 0 where
    pub named : s.table_id ≡ name
    pub empty : s.me.1 ≡ []
    pub opened : s.me.0.opening ≡ Some opening
    pub stand : StandIn s.me.0.seen s.me.0.mine
    pub apart : AreApart s.me.0.mine

  -- such a seat that is served, while the value is out of the slot
  pub record HasTurn (name : TableId) (opening : O) (s : Seat (Option B) (View O E)) : Type 0 where
    pub named : s.table_id ≡ name
    pub empty : s.me.1 ≡ (0, None) ∷ []
    pub opened : s.me.0.opening ≡ Some opening
    pub phase : s.me.0.phase ≡ Served
    pub stand : StandIn s.me.0.seen s.me.0.mine
    pub apart : AreApart s.me.0.mine
