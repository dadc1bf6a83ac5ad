-- A set of rows as three levels of words: a bit for each row, and in the higher levels a bit for each word that isn't 0.
use Rattle.std.specs.Prelude.{◌≡◌, ℕ, ◌<◌, ◌≤◌, ◌*◌, ◌/◌, ◌%◌, ◌==◌, ◌||◌, ◌&&◌, Bool, true, false, not, List, length, slice_index, Option}
use Rattle.std.specs.Option.{MatchOption}
use Rattle.std.specs.Int.{bit_at}

-- the number is in the set; there are no members past the last word
unfoldable pub is_member : List ℕ → ℕ → Bool
is_member words i = bit_at (slice_index words (i / 64)) (i % 64) == 1

-- the word at a place has a member
unfoldable pub is_used : List ℕ → ℕ → Bool
is_used words k = not (slice_index words k == 0)

-- the members of the higher level are the places of the words that have members
pub record IsAbove (words above : List ℕ) : Type 0 where
  pub members : (k : ℕ) → is_member above k ≡ is_used words k
  pub room : length words ≤ 64 * length above

-- three levels, the highest of at most one word
pub record AreLevels (words above top : List ℕ) : Type 0 where
  pub low : IsAbove words above
  pub high : IsAbove above top
  pub few : length top ≤ 1

-- the least member of a word
pub record IsFirstOf (words : List ℕ) (k i : ℕ) : Type 0 where
  pub word : i / 64 ≡ k
  pub member : is_member words i ≡ true
  pub least : (j : ℕ) → j < i → j / 64 ≡ k → is_member words j ≡ false

-- the least member of a word, if there is one
abbrev pub IsFirstIn : List ℕ → ℕ → Option ℕ → Type 0
IsFirstIn words k found = MatchOption found (is_used words k ≡ false) (IsFirstOf words k)

-- the least member
pub record IsLeastOf (words : List ℕ) (i : ℕ) : Type 0 where
  pub member : is_member words i ≡ true
  pub least : (j : ℕ) → j < i → is_member words j ≡ false

-- the least member, if there is one
abbrev pub IsLeast : List ℕ → Option ℕ → Type 0
IsLeast words found = MatchOption found ((j : ℕ) → is_member words j ≡ false) (IsLeastOf words)

-- words after a number was put in
pub record PutIn (old new : List ℕ) (i : ℕ) : Type 0 where
  pub members : (k : ℕ) → is_member new k ≡ (is_member old k || (k == i))
  pub used : (k : ℕ) → is_used new k ≡ (is_used old k || (k == i / 64))
  pub as_many : length new ≡ length old

-- words after a number was taken out, if it was to be, and whether that left its word with no member
pub record TookOut (old new : List ℕ) (i : ℕ) (goes emptied : Bool) : Type 0 where
  pub members : (k : ℕ) → is_member new k ≡ (is_member old k && not (goes && (k == i)))
  pub used : (k : ℕ) → is_used new k ≡ (is_used old k && not (emptied && (k == i / 64)))
  pub as_many : length new ≡ length old

-- words after they were made longer, with the same members
pub record Widened (old new : List ℕ) : Type 0 where
  pub members : (k : ℕ) → is_member new k ≡ is_member old k
  pub used : (k : ℕ) → is_used new k ≡ is_used old k
  pub longer : length old ≤ length new
