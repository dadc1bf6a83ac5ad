-- Rows of bits that tell what reaches what, and which of them have room.
use Rattle.std.specs.Prelude.{◌≡◌, ◌<◌, ◌/◌, ℕ, Bool, true, ◌&&◌, ◌||◌, ◌==◌, List, [], length, slice_index_or}
use Rattle.ecf_graph.specs.Paths.{Reaches}
use Rattle.ecf_graph.specs.Rows.{is_in_row, is_member}

-- a is in the row of b exactly where it reaches b
pub record IsClosure (r : ℕ → ℕ → Bool) (rows : List (List ℕ)) : Type 0 where
  pub sound : (a b : ℕ) → is_in_row rows b a ≡ true → Reaches r a b
  pub whole : (a b : ℕ) → Reaches r a b → is_in_row rows b a ≡ true

-- i and those of the row of i were put into the row of j and into each row that has j
pub record IsSpread (old : List (List ℕ)) (i j : ℕ) (new : List (List ℕ)) : Type 0 where
  pub joined : (a b : ℕ) → b < length old →
      is_in_row new b a ≡ (is_in_row old b a || (((b == j) || is_in_row old b j) && (is_in_row old i a || (a == i))))
  pub long : length new ≡ length old

-- the row of i has words
abbrev pub IsReady : List (List ℕ) → ℕ → Type 0
IsReady rows i = 0 < length (slice_index_or rows i [])

-- both rows have words
abbrev pub IsReadyPair : List (List ℕ) → ℕ × ℕ → Type 0
IsReadyPair rows p = IsReady rows p.0 × IsReady rows p.1

-- the rows of those that stand in rows have words, and each row with words has room for all numbers whose rows have words
pub record IsShaped (rows : List (List ℕ)) : Type 0 where
  pub members : (b a : ℕ) → is_in_row rows b a ≡ true → IsReady rows a
  pub wide : (k a : ℕ) → IsReady rows k → IsReady rows a → a / 64 < length (slice_index_or rows k [])

-- each number that stands in a row is in the set
abbrev pub HoldsReaching : List (List ℕ) → List ℕ → Type 0
HoldsReaching rows reaching = (b a : ℕ) → is_in_row rows b a ≡ true → is_member reaching a ≡ true

-- the set has room for all numbers whose rows have words
abbrev pub HasRoomForAll : List (List ℕ) → List ℕ → Type 0
HasRoomForAll rows set = (a : ℕ) → IsReady rows a → a / 64 < length set
