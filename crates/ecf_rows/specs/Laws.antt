-- That the words for rows alone say what the words for a book and its opening say.
use Rattle.std.specs.Prelude.{◌≡◌, ℕ, List, true, false}
use Rattle.ecf_lang.specs.declared.tx.Tx.{Tx}
use Rattle.ecf_core.specs.declared.book.RowState.{RowState}
use Rattle.ecf_core.specs.Book.{Opening, Book, new_book, row_at, is_done, with_row, may_be_claimed, claimable_row, first_open_row}
use Rattle.ecf_core.specs.Calls.{extend, with_transactions}
use Rattle.ecf_rows.specs.Standing.{Standing, AreDoneBefore, standing_of, new_standing, extended, state_at, with_state, may_claim, may_place, least_claimable, first_open_from}

-- for a book and its opening the words say the same of its rows
pub record IsOfBook (o : Opening) (b : Book) : Type 0 where
  pub state : (r : ℕ) → state_at (standing_of o b) r ≡ row_at b r
  pub may : (r : ℕ) → may_claim (standing_of o b) r ≡ may_be_claimed o b r
  pub least : least_claimable (standing_of o b) ≡ claimable_row o b
  pub first_open : first_open_from (standing_of o b) 0 ≡ first_open_row o b
  pub changed : (r : ℕ) (state : RowState) → with_state (standing_of o b) r state ≡ standing_of o (with_row b r state)
  pub extended : (txs : List Tx) → extended (standing_of o b) txs ≡ standing_of (with_transactions o txs) (extend b txs)
  pub new : new_standing o.txs ≡ standing_of o (new_book o)

-- they do for each
abbrev pub SaidOfBooks : Type 0
SaidOfBooks = (o : Opening) (b : Book) → IsOfBook o b

-- a row that isn't Done may be placed where all rows before it are
abbrev pub PlacedInOrder : Type 0
PlacedInOrder = (s : Standing) (r : ℕ) → AreDoneBefore s r → is_done (state_at s r) ≡ false → may_place s r ≡ true
