-- A relation on members as a list of pairs.
use Rattle.std.specs.Prelude.{ℕ, Bool, List, [], ◌∷◌, ◌++◌, map, filter}

-- the pairs of a relation whose first is i, by their seconds
unfoldable pub pairs_from : (ℕ → ℕ → Bool) → List ℕ → ℕ → List (ℕ × ℕ)
pairs_from r members i = map (λ j. (i, j)) (filter (λ j. r i j) members)

-- those whose first is one of a list
unfoldable pub pairs_over : (ℕ → ℕ → Bool) → List ℕ → List ℕ → List (ℕ × ℕ)
pairs_over r members [] = []
pairs_over r members (i ∷ is) = pairs_from r members i ++ pairs_over r members is

-- all pairs of a relation on members
unfoldable pub pairs_of : (ℕ → ℕ → Bool) → List ℕ → List (ℕ × ℕ)
pairs_of r members = pairs_over r members members
