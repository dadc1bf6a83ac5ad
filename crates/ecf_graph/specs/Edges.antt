-- What a list of pairs is like that stands for a relation on members.
use Rattle.std.specs.Prelude.{◌≡◌, ℕ, Bool, true, not, ◌&&◌, ◌==◌, List, All, AllPairs}
use Rattle.std.specs.Ordering.{nat_cmp, ordering_then}
use Rattle.std.specs.declared.cmp.Ordering.{Ordering}
use Rattle.std.specs.declared.cmp.Ordering.TheVariants.{Less}
use Rattle.ecf_graph.specs.Checks.{stands_in}

-- pairs compared by their firsts, and then by their seconds
abbrev pub pair_cmp : ℕ × ℕ → ℕ × ℕ → Ordering
pair_cmp p q = ordering_then (nat_cmp p.0 q.0) (nat_cmp p.1 q.1)

-- each pair is below all later ones, so none stands twice
abbrev pub PairsRise : List (ℕ × ℕ) → Type 0
PairsRise pairs = AllPairs (λ p q. pair_cmp p q ≡ Less) pairs

-- a pair is of two different members
abbrev pub is_of_two : List ℕ → ℕ × ℕ → Bool
is_of_two members p = not (p.0 == p.1) && (stands_in members p.0 && stands_in members p.1)

-- each pair is of two different members
abbrev pub PairsAreOfTwo : List ℕ → List (ℕ × ℕ) → Type 0
PairsAreOfTwo members pairs = All (λ p. is_of_two members p ≡ true) pairs
