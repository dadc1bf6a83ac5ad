-- Paths of a relation between numbers.
use Rattle.std.specs.Prelude.{◌≡◌, ℕ, Bool, true, ◌&&◌, ◌||◌, ◌==◌}

-- from i to j by one move or more, each of them a pair of the relation
pub data Reaches (r : ℕ → ℕ → Bool) : ℕ → ℕ → Type 0 where
  one : {i j : ℕ} → r i j ≡ true → Reaches r i j
  more : {i j k : ℕ} → r i j ≡ true → Reaches r j k → Reaches r i k

-- no number reaches itself
abbrev pub IsAcyclic : (ℕ → ℕ → Bool) → Type 0
IsAcyclic r = (i : ℕ) → Reaches r i i → ⊥

-- two relations have paths between the same numbers
pub record SameReach (r q : ℕ → ℕ → Bool) : Type 0 where
  pub there : (i j : ℕ) → Reaches r i j → Reaches q i j
  pub back : (i j : ℕ) → Reaches q i j → Reaches r i j

-- the relation with one pair more
unfoldable pub with_pair : (ℕ → ℕ → Bool) → ℕ → ℕ → ℕ → ℕ → Bool
with_pair r i j a b = r a b || ((a == i) && (b == j))
