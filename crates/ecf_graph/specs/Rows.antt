-- Sets of numbers as rows of bits, 64 in each word, and lists of such rows.
use Rattle.std.specs.Prelude.{ℕ, zero, suc, Bool, ◌==◌, ◌/◌, ◌%◌, if◌then◌else◌, List, [], ◌∷◌, ◌++◌, filter, slice_index, slice_index_or}
use Rattle.std.specs.Int.{bit_at}

-- i is in the set; there are no members past the last word
unfoldable pub is_member : List ℕ → ℕ → Bool
is_member words i = bit_at (slice_index words (i / 64)) (i % 64) == 1

-- i is in the row at k; there are no members past the last row
unfoldable pub is_in_row : List (List ℕ) → ℕ → ℕ → Bool
is_in_row rows k i = is_member (slice_index_or rows k []) i

-- the numbers below n that pass a test, rising
unfoldable pub numbers_below : (ℕ → Bool) → ℕ → List ℕ
numbers_below p zero = []
numbers_below p (suc n) = numbers_below p n ++ (if p n then n ∷ [] else [])

-- those of a list that are in a set
unfoldable pub those_in : List ℕ → List ℕ → List ℕ
those_in row list = filter (is_member row) list
