-- What it takes for a book to add one entry, and which entries its longer calls add row by row.
use Rattle.std.specs.Prelude.{◌≡◌, ℕ, List, [], ◌∷◌, slice_get, Some}
use Rattle.std.specs.Arc.{arc_value}
use Rattle.ecf_book.specs.Recorded.{Recorded, opening_of, state_of}
use Rattle.ecf_core.specs.declared.book.LogEntry.{LogEntry}
use Rattle.ecf_core.specs.declared.book.LogWhat.{LogWhat}
use Rattle.ecf_core.specs.declared.book.LogWhat.TheVariants as log
use Rattle.ecf_core.specs.declared.book.RowState.{RowState}
use Rattle.ecf_core.specs.declared.book.RowState.TheVariants as row
use Rattle.ecf_core.specs.Calls.{finishing_entry}
use Rattle.ecf_core.specs.Legal.{IsLegalEntry}
use Rattle.ecf_draft.specs.Drafts.{JudgedWork, IsJudgedUnder}
use Rattle.ecf_lang.specs.declared.receipt.Receipt.{Receipt}
use Rattle.ecf_lang.specs.declared.tx.Tx.{Tx}
use Rattle.ecf_lang.specs.Store.{Store}
use Rattle.ecf_rows.specs.Standing.{Standing, standing_of}
use Rattle.ecf_verdicts.specs.Receipts.{next_store, receipt_on}

abbrev pub entry : ℕ → ℕ → LogWhat → LogEntry
entry row ticket what = record { row = row; ticket = ticket; what = what }

-- an entry may come next in a book's history
abbrev pub MayCome : Recorded → LogEntry → Type 0
MayCome b e = IsLegalEntry (opening_of b.setup) (state_of b) e

-- the rows of a book's state
abbrev pub standing : Recorded → Standing
standing b = standing_of (opening_of b.setup) (state_of b)

-- a receipt and a next store are those of a row's transaction, run on the present store
pub record IsPlacing (b : Recorded) (r : ℕ) (receipt : Receipt) (next : Store) : Type 0 where
  pub tx : Tx
  pub at : slice_get b.setup.txs r ≡ Some tx
  pub right : receipt ≡ receipt_on b.setup.typed (state_of b).ledger.store tx
  pub leaves : next ≡ next_store b.setup.typed (state_of b).ledger.store tx

-- what was judged is of the book's transaction at its row, and was drafted under the book's contract
pub record IsOfBook (b : Recorded) (j : JudgedWork) : Type 0 where
  pub tx : slice_get b.setup.txs j.row ≡ Some (arc_value j.tx)
  pub under_contract : IsJudgedUnder b.setup.typed j

-- the entry that gives a row back, by its state; none where it isn't Claimed
abbrev pub freeing_row : ℕ → RowState → List LogEntry
freeing_row r (row.Free claims) = []
freeing_row r (row.Claimed ticket claims stales) = entry r ticket log.Freed ∷ []
freeing_row r (row.Done seq) = []

-- the entry that places a row when all work ends, by its state; none where it is Done
abbrev pub finishing_row : ℕ → ℕ → RowState → List LogEntry
finishing_row r seq (row.Free claims) = finishing_entry r seq ∷ []
finishing_row r seq (row.Claimed ticket claims stales) = finishing_entry r seq ∷ []
finishing_row r seq (row.Done n) = []
