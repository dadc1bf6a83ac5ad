-- Members of a relation put one after the other, as long as the relation allows it.
use Rattle.std.specs.Prelude.{◌≡◌, ℕ, zero, suc, Bool, true, false, not, ◌==◌, List, [], ◌∷◌, ◌++◌, length, filter, find, Option, Some, None, Contains}
use Rattle.std.specs.List.{list_any}

-- a member that isn't placed is before j
unfoldable pub waits : (ℕ → ℕ → Bool) → List ℕ → ℕ → Bool
waits r unplaced j = list_any (λ i. r i j) unplaced

-- the first of the unplaced ones that none of them is before
unfoldable pub next_of : (ℕ → ℕ → Bool) → List ℕ → Option ℕ
next_of r unplaced = find (λ j. not (waits r unplaced j)) unplaced

-- the list without a number
unfoldable pub without : ℕ → List ℕ → List ℕ
without i xs = filter (λ j. not (j == i)) xs

-- the members in the order of placing, and those that can't be placed
pub record Placement : Type 0 where
  pub order : List ℕ
  pub rest : List ℕ

-- at most so many are placed, again and again the next
unfoldable pub placement_from : (ℕ → ℕ → Bool) → ℕ → List ℕ → Placement
placement_from r zero unplaced = record { order = []; rest = unplaced }
placement_from r (suc n) unplaced = elim (next_of r unplaced) [
  | None ↦ record { order = []; rest = unplaced }
  | Some j ↦
      let later = placement_from r n (without j unplaced) in
      record { order = j ∷ later.order; rest = later.rest }
]

-- the placement of all members
unfoldable pub placement_of : (ℕ → ℕ → Bool) → List ℕ → Placement
placement_of r members = placement_from r (length members) members

-- the relation joins members alone
pub record IsWithin (r : ℕ → ℕ → Bool) (members : List ℕ) : Type 0 where
  pub first : (i j : ℕ) → r i j ≡ true → Contains members i
  pub second : (i j : ℕ) → r i j ≡ true → Contains members j

-- the next is placed, or there is none and nothing changed
abbrev pub PlacesNext : (ℕ → ℕ → Bool) → Bool → List ℕ → List ℕ → List ℕ → List ℕ → Type 0
PlacesNext r true rest order rest' order' = (j : ℕ) × (next_of r rest ≡ Some j) × (rest' ≡ without j rest) × (order' ≡ order ++ j ∷ [])
PlacesNext r false rest order rest' order' = (next_of r rest ≡ None) × (rest' ≡ rest) × (order' ≡ order)
