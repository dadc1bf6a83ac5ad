-- The rule of the turn, which holds between any two steps of any threads.
-- The words are the number of entries, the next ticket, and the ticket that is served. The one slot has the value, or is out with the seat that is served.
use Rattle.std.specs.Prelude.{◌≡◌, ◌≢◌, ℕ, ◌^◌, ◌<◌, ◌≤◌, List, [], ◌∷◌, length, Option, Some, None, All}
use mathlib.Core.Option.{some}
use mathlib.Core.Option as maybe
use mathlib.Core.List.{IsPrefix}
use lib.ListN.{get_elem?}
use Rattle.atomic_table.specs.Table.{State}
use Rattle.ecf_turnstile.specs.declared.view.Phase.TheVariants.{Waiting, Served}
use Rattle.ecf_turnstile.specs.declared.view.View.{View}
use Rattle.ecf_turnstile.specs.Histories.{AreApart}

module _ {O E : Type 0} where
  -- what the seat with this number knows is so; `out` is 1 where the value is out with a seat, `owner` tells who drew a ticket, and `author` who added an entry
  pub record Knows (opening : O) (history : List E) (next serving out : ℕ) (owner author : ℕ → ℕ) (seat : ℕ) (v : View O E) : Type 0 where
    pub opened : v.opening ≢ None → v.opening ≡ Some opening
    pub seen : IsPrefix v.seen history
    pub told : IsPrefix v.told history
    pub mine : All (λ p. (p.0 < length history) × (author p.0 ≡ seat)) v.mine
    pub apart : AreApart v.mine
    pub waits : v.phase ≡ Waiting → (serving ≤ v.ticket) × (v.ticket < next) × (owner v.ticket ≡ seat) × (v.ticket ≡ serving → out ≡ 0)
    pub has : v.phase ≡ Served → (v.ticket ≡ serving) × (v.ticket < next) × (owner v.ticket ≡ seat) × (out ≡ 1) × (v.seen ≡ history)

module _ {B O E : Type 0} (opening_of : B → O) (entries_of : B → List E) where
  -- tickets are served in order, the value at home has the history that is counted, and each seat knows what is so
  pub record IsInTurn (opening : O) (s : State (Option B) (View O E)) : Type 0 where
    pub history : List E
    pub next : ℕ
    pub serving : ℕ
    pub out : ℕ
    pub owner : ℕ → ℕ
    pub author : ℕ → ℕ
    pub words : s.words ≡ length history ∷ next ∷ serving ∷ []
    pub home : maybe.Option (Option B)
    pub homes : s.homes ≡ home ∷ []
    pub in_order : (serving ≤ next) × (next < 2 ^ 64)
    pub busy : out ≢ 0 → serving < next
    pub at_home : out ≡ 0 → (x : B) × (home ≡ some (Some x)) × (opening_of x ≡ opening) × (entries_of x ≡ history)
    pub each_seat : (j : ℕ) (v : View O E) → get_elem? s.views j ≡ some v → Knows opening history next serving out owner author j v
