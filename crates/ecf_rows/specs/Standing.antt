-- How the rows of a book stand: what of a book and its opening the rows are, and which of them may be claimed or placed.
use Rattle.std.specs.Prelude.{◌≡◌, ℕ, ◌<◌, ◌==◌, ◌-◌, ◌&&◌, Bool, true, not, List, ◌++◌, length, map, filter, find, slice_set, slice_index, slice_index_or, Option}
use Rattle.std.specs.List.{list_all, range_with_len}
use Rattle.ecf_lang.specs.declared.tx.Tx.{Tx}
use Rattle.ecf_core.specs.declared.book.RowState.{RowState}
use Rattle.ecf_core.specs.declared.book.RowState.TheVariants as row
use Rattle.ecf_core.specs.Book.{Opening, Book, is_done, has_claim_left, new_rows}

-- who submitted each row, and its state
pub record Standing : Type 0 where
  pub submitters : List ℕ
  pub states : List RowState

-- who submitted each of some transactions
abbrev pub submitters_of : List Tx → List ℕ
submitters_of txs = map (λ (tx : Tx). tx.submitter) txs

-- the rows of a book
abbrev pub standing_of : Opening → Book → Standing
standing_of o b = record { submitters = submitters_of o.txs; states = b.rows }

-- rows that nobody claimed yet, one for each transaction
abbrev pub new_standing : List Tx → Standing
new_standing txs = record { submitters = submitters_of txs; states = new_rows txs }

-- with a row more for each further transaction
abbrev pub extended : Standing → List Tx → Standing
extended s txs = record { submitters = s.submitters ++ submitters_of txs; states = s.states ++ new_rows txs }

-- the state of a row; one that isn't there counts as Free
abbrev pub state_at : Standing → ℕ → RowState
state_at s r = slice_index_or s.states r (row.Free 0)

-- with another state for a row
abbrev pub with_state : Standing → ℕ → RowState → Standing
with_state s r state = record { submitters = s.submitters; states = slice_set s.states r state }

-- the rows of a row's submitter before it
abbrev pub earlier_rows : Standing → ℕ → List ℕ
earlier_rows s r = filter (λ q. slice_index s.submitters q == slice_index s.submitters r) (range_with_len 0 r)

-- all earlier rows of its submitter are Done
abbrev pub is_next : Standing → ℕ → Bool
is_next s r = list_all (λ q. is_done (state_at s q)) (earlier_rows s r)

-- a row may be claimed where it has a claim left and all earlier rows of its submitter are Done
abbrev pub may_claim : Standing → ℕ → Bool
may_claim s r = has_claim_left (state_at s r) && is_next s r

-- a row may be placed where it isn't Done and all earlier rows of its submitter are
abbrev pub may_place : Standing → ℕ → Bool
may_place s r = not (is_done (state_at s r)) && is_next s r

-- the least row that may be claimed
abbrev pub least_claimable : Standing → Option ℕ
least_claimable s = find (may_claim s) (range_with_len 0 (length s.submitters))

-- the first row from a place on that isn't Done
abbrev pub first_open_from : Standing → ℕ → Option ℕ
first_open_from s from = find (λ r. not (is_done (state_at s r))) (range_with_len from (length s.submitters - from))

-- all rows before a place are Done
abbrev pub AreDoneBefore : Standing → ℕ → Type 0
AreDoneBefore s place = (r : ℕ) → r < place → is_done (state_at s r) ≡ true

-- how many commits under its ticket were stale; none where the row isn't Claimed
abbrev pub stales_of : RowState → ℕ
stales_of (row.Free claims) = 0
stales_of (row.Claimed ticket claims stales) = stales
stales_of (row.Done seq) = 0
