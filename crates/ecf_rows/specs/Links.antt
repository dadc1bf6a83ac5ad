-- Where a submitter comes next.
use Rattle.std.specs.Prelude.{◌≡◌, ◌≢◌, ◌↔◌, ℕ, suc, ◌+◌, ◌<◌, ◌≤◌, true, List, length, slice_index, Option}
use Rattle.std.specs.Option.{unwrap_or}
use Rattle.ecf_rows.specs.RowSet.{is_member}

-- place is the first one from `from` on at which the number stands, or the list's length where it stands at none
pub record IsFirstFrom (list : List ℕ) (from number place : ℕ) : Type 0 where
  pub within : place ≤ length list
  pub there : place < length list → (from ≤ place) × (slice_index list place ≡ number)
  pub none_before : (q : ℕ) → from ≤ q → q < place → slice_index list q ≢ number

-- for each number its first place from `from` on
abbrev pub FindsFirst : List ℕ → ℕ → (ℕ → Option ℕ) → Type 0
FindsFirst list from found = (number : ℕ) → IsFirstFrom list from number (unwrap_or (found number) (length list))

-- so many places further on
pub record IsLinked (list : List ℕ) (before : ℕ) (k link : ℕ) : Type 0 where
  pub place : ℕ
  pub is : link ≡ before + place
  pub first : IsFirstFrom list (suc k) (slice_index list k) place

-- for each place from `from` on the next one with the same number, counted from so many places before the list
pub record AreLinks (list : List ℕ) (before from : ℕ) (links : List ℕ) : Type 0 where
  pub as_many : length links ≡ length list
  pub each : (k : ℕ) → from ≤ k → k < length list → IsLinked list before k (slice_index links k)

-- the set after the first places of their numbers below an end were put in, each so many places further on
pub record HasEntered (list : List ℕ) (before end : ℕ) (old new : List ℕ) : Type 0 where
  pub kept : (r : ℕ) → r < before → is_member new r ≡ is_member old r
  pub entered : (k : ℕ) → k < end → (is_member new (before + k) ≡ true) ↔ IsFirstFrom list 0 (slice_index list k) k
  pub rest : (r : ℕ) → before + end ≤ r → is_member new r ≡ is_member old r
  pub words : length new ≡ length old
