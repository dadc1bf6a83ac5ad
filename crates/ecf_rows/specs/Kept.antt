-- What is kept beside the rows' submitters and states.
use Rattle.std.specs.Prelude.{◌≡◌, ℕ, suc, ◌<◌, ◌≤◌, ◌*◌, ◌&&◌, nat_lt, if◌then◌else◌, Bool, true, false, List, length, slice_index, slice_index_or}
use Rattle.std.specs.List.{count_by}
use Rattle.ecf_lang.specs.declared.limits.TheConstants.{MAX_TRANSACTIONS}
use Rattle.ecf_core.specs.declared.book.RowState.{RowState}
use Rattle.ecf_core.specs.declared.book.RowState.TheVariants as row
use Rattle.ecf_core.specs.Book.{has_claim_left, is_claimed, is_done}
use Rattle.ecf_rows.specs.Standing.{AreDoneBefore, Standing, state_at, is_next, may_claim}
use Rattle.ecf_rows.specs.Links.{IsFirstFrom}
use Rattle.ecf_rows.specs.RowSet.{is_member}

-- how many Claimed rows a row counts for
abbrev pub one_if_claimed : RowState → ℕ
one_if_claimed state = if is_claimed state then 1 else 0

-- a row that is there has a claim left
abbrev pub is_left : List RowState → ℕ → Bool
is_left states r = nat_lt r (length states) && has_claim_left (slice_index_or states r (row.Free 0))

-- the set of rows that may be claimed, with room for each row
pub record HasClaimable (s : Standing) (words : List ℕ) : Type 0 where
  pub members : (r : ℕ) → is_member words r ≡ (nat_lt r (length s.states) && may_claim s r)
  pub room : length s.states ≤ 64 * length words

-- for each row that isn't Done the next one of its submitter
pub record HasLinks (s : Standing) (links : List ℕ) : Type 0 where
  pub as_many : length links ≡ length s.states
  pub next : (r : ℕ) → r < length s.states → is_done (state_at s r) ≡ false →
      IsFirstFrom s.submitters (suc r) (slice_index s.submitters r) (slice_index links r)

-- the Done rows of a submitter are its first ones, and before a Claimed one all are
pub record InTurn (s : Standing) : Type 0 where
  pub done : (q r : ℕ) → q < r → slice_index s.submitters q ≡ slice_index s.submitters r →
      is_done (state_at s r) ≡ true → is_done (state_at s q) ≡ true
  pub claimed : (r : ℕ) → is_claimed (state_at s r) ≡ true → is_next s r ≡ true

-- all that is kept: all rows before the settled one are Done
pub record IsKept (s : Standing) (links words : List ℕ) (claimed settled : ℕ) : Type 0 where
  pub as_many : length s.submitters ≡ length s.states
  pub few : length s.states ≤ MAX_TRANSACTIONS
  pub linked : HasLinks s links
  pub entered : HasClaimable s words
  pub turn : InTurn s
  pub counted : claimed ≡ count_by is_claimed s.states
  pub done_before : AreDoneBefore s settled
