-- What each step tells its seat: of the step, the seat before it, the number that was found in the word, and the seat after it.
use Rattle.std.specs.Prelude.{◌≡◌, ◌≢◌, ℕ, List, [], ◌∷◌, Option, Some, None}
use mathlib.Core.List.{IsPrefix}
use Rattle.atomic_table.specs.Table.{Me, Step}
use Rattle.ecf_turnstile.specs.declared.view.View.{View}
use Rattle.ecf_turnstile.specs.Histories.{longer_of, AddsOwn, AreApart}
use Rattle.ecf_turnstile.specs.Views.{with_ticket, with_turn, with_own, with_seen, at_rest}

module _ {B O E : Type 0} where
  -- where the next ticket was the one expected, it is the seat's now; else nothing happened
  abbrev pub Draws : Step (Option B) → Me (Option B) (View O E) → ℕ → Me (Option B) (View O E) → Type 0
  Draws step old found new = (new.1 ≡ old.1) × (found ≡ step.first → new.0 ≡ with_ticket old.0 found) × (found ≢ step.first → new.0 ≡ old.0)

  -- the turn is passed on, and the seat holds nothing
  abbrev pub PassesOn : Step (Option B) → Me (Option B) (View O E) → ℕ → Me (Option B) (View O E) → Type 0
  PassesOn step old found new = (new.0 ≡ at_rest old.0) × (new.1 ≡ [])

  -- the seat has seen the longer of two first parts, which begins with both
  abbrev pub Compares : Step (Option B) → Me (Option B) (View O E) → ℕ → Me (Option B) (View O E) → Type 0
  Compares step old found new = (new.1 ≡ old.1) × (new.0 ≡ with_seen old.0 (longer_of old.0.seen old.0.told))
      × IsPrefix old.0.seen (longer_of old.0.seen old.0.told) × IsPrefix old.0.told (longer_of old.0.seen old.0.told) × AreApart old.0.mine

module _ {B O E : Type 0} (opening_of : B → O) (entries_of : B → List E) where
  -- where the ticket that is served is the seat's own, it holds the value and has seen its history; else nothing happened
  abbrev pub Looks : Step (Option B) → Me (Option B) (View O E) → ℕ → Me (Option B) (View O E) → Type 0
  Looks step old found new =
      (found ≡ old.0.ticket → (x : B) × (new.0 ≡ with_turn old.0 (entries_of x)) × (new.1 ≡ (0, Some x) ∷ [])
      × (old.0.opening ≢ None → old.0.opening ≡ Some (opening_of x)) × IsPrefix old.0.seen (entries_of x))
      × (found ≢ old.0.ticket → (new.0 ≡ old.0) × (new.1 ≡ old.1))

module _ {B O E : Type 0} (entries_of : B → List E) where
  -- the entry that the value in the slot has more, if there is one, is counted and is the seat's own
  abbrev pub Extends : Step (Option B) → Me (Option B) (View O E) → ℕ → Me (Option B) (View O E) → Type 0
  Extends step old found new = (x : B) × (mine : List (ℕ × E)) × (old.1 ≡ (0, Some x) ∷ []) × (new ≡ (with_own old.0 (entries_of x) mine, old.1))
      × AddsOwn old.0.seen old.0.mine (entries_of x) mine
