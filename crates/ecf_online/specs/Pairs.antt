-- The pairs that a step adds.
use Rattle.std.specs.Prelude.{ℕ, Bool, ◌==◌, if◌then◌else◌, List, [], ◌∷◌, ◌++◌, Option, option_to_list}

-- from each of a list to j, but for j itself
unfoldable pub pairs_to : ℕ → List ℕ → List (ℕ × ℕ)
pairs_to j [] = []
pairs_to j (i ∷ is) = if i == j then pairs_to j is else (i, j) ∷ pairs_to j is

-- those of a step of j at a cell with this last writer and these readers since
abbrev pub step_pairs : Option ℕ → List ℕ → ℕ → Bool → List (ℕ × ℕ)
step_pairs writer readers j write = pairs_to j (option_to_list writer) ++ pairs_to j (if write then readers else [])
