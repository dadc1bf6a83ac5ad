-- Rows made wider, without a change of their members.
use Rattle.std.specs.Prelude.{◌≡◌, ◌≤◌, ◌<◌, ◌/◌, ◌⊎◌, ℕ, true, List, [], length, slice_index_or}
use Rattle.ecf_graph.specs.Rows.{is_in_row, is_member}
use Rattle.ecf_online.specs.Closure.{IsReady}

-- each row with words has at least so many and room for its own number, those that stand in rows have rows with words,
-- and the set has at least so many words
pub record IsWide (rows : List (List ℕ)) (seen : List ℕ) (width : ℕ) : Type 0 where
  pub wide : (b : ℕ) → IsReady rows b → width ≤ length (slice_index_or rows b [])
  pub own : (b : ℕ) → IsReady rows b → b / 64 < width
  pub members : (b a : ℕ) → is_in_row rows b a ≡ true → IsReady rows a
  pub set : width ≤ length seen

-- the rows with words have as many or more, and the others none
pub record RowsWider (old new : List (List ℕ)) : Type 0 where
  pub same : (b a : ℕ) → is_in_row new b a ≡ is_in_row old b a
  pub longer : (b : ℕ) → length (slice_index_or old b []) ≤ length (slice_index_or new b [])
  pub none : (b : ℕ) → length (slice_index_or old b []) ≡ 0 → length (slice_index_or new b []) ≡ 0

-- the row of i may have got words, so many or as many as it had, and the others have as many
pub record OpensRow (old : List (List ℕ)) (width i : ℕ) (new : List (List ℕ)) : Type 0 where
  pub same : (b a : ℕ) → is_in_row new b a ≡ is_in_row old b a
  pub longer : (b : ℕ) → length (slice_index_or old b []) ≤ length (slice_index_or new b [])
  pub wide : IsReady new i → (width ≤ length (slice_index_or new i [])) ⊎ (length (slice_index_or new i []) ≡ length (slice_index_or old i []))
  pub others : (b : ℕ) → (b ≡ i → ⊥) → length (slice_index_or new b []) ≡ length (slice_index_or old b [])

-- members stay, rows with words keep them, and the width is kept
pub record Widens (rows : List (List ℕ)) (seen : List ℕ) (width : ℕ) (rows' : List (List ℕ)) (seen' : List ℕ) (width' : ℕ) : Type 0 where
  pub same : (b a : ℕ) → is_in_row rows' b a ≡ is_in_row rows b a
  pub set : (a : ℕ) → is_member seen' a ≡ is_member seen a
  pub ready : (b : ℕ) → IsReady rows b → IsReady rows' b
  pub wide : IsWide rows seen width → IsWide rows' seen' width'
