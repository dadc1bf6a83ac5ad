-- Pairs of numbers as a list, and the relation that they make.
use Rattle.std.specs.Prelude.{ℕ, Bool, ◌&&◌, ◌==◌, List}
use Rattle.std.specs.List.{list_any}

-- a pair of the list is that of a and b
unfoldable pub joins : List (ℕ × ℕ) → ℕ → ℕ → Bool
joins pairs a b = list_any (λ p. (a == p.0) && (b == p.1)) pairs
