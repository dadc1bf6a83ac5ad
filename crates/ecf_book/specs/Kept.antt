-- What is known of every book: a legal history that isn't long, and the serial run of its journal.
use Rattle.std.specs.Prelude.{◌≡◌, ◌≤◌, ◌*◌, ℕ, List, length, All}
use Rattle.ecf_book.specs.declared.setup.Setup.{Setup}
use Rattle.ecf_book.specs.Recorded.{Recorded, opening_of, state_of}
use Rattle.ecf_core.specs.Book.{Book}
use Rattle.ecf_core.specs.Counts.{entries_of, most_entries, stales_of}
use Rattle.ecf_core.specs.Laws.{RowAgrees}
use Rattle.ecf_core.specs.Legal.{IsHistory}
use Rattle.ecf_heap.specs.Numbered.{IsWithinLimits}
use Rattle.ecf_journals.specs.Journals as journals
use Rattle.ecf_lang.specs.declared.limits.TheConstants.{MAX_STALES, MAX_TRANSACTIONS}
use Rattle.ecf_lang.specs.declared.receipt.Entry.{Entry}
use Rattle.ecf_lang.specs.Fits.{Fits}
use Rattle.ecf_verdicts.specs.Journals.{IsLegalSoFar, along}
use Rattle.ecf_verdicts.specs.Receipts.{serial}

-- a setup: the contract is within its limits, each transaction fits it, and they aren't too many
pub record IsSetup (s : Setup) : Type 0 where
  pub limits : IsWithinLimits s.typed
  pub fits : All (Fits s.typed) s.txs
  pub few : length s.txs ≤ MAX_TRANSACTIONS

-- the entries of the journal, each a row with its receipt
abbrev pub journal_entries : Book → List Entry
journal_entries b = journals.entries_of b.journal b.ledger.receipts

-- a book's history is legal from its setup on; a ticket has few stale commits in it, a row few entries, and so have all rows together
pub record HasHistory (b : Recorded) : Type 0 where
  pub setup : IsSetup b.setup
  pub legal : IsHistory (opening_of b.setup) b.entries
  pub stales : (ticket : ℕ) → stales_of ticket b.entries ≤ MAX_STALES
  pub few : (r : ℕ) → entries_of r b.entries ≤ most_entries
  pub in_all : length b.entries ≤ most_entries * length b.setup.txs

-- a book's journal is legal so far, its receipts and its store are those of running the journal's transactions one after the other,
-- and its rows agree with the journal
pub record IsSerial (b : Recorded) : Type 0 where
  pub legal : IsLegalSoFar b.setup.txs (state_of b).journal
  pub receipts : (state_of b).ledger.receipts ≡ (serial b.setup.typed (along b.setup.txs (state_of b).journal)).receipts
  pub store : (state_of b).ledger.store ≡ (serial b.setup.typed (along b.setup.txs (state_of b).journal)).store
  pub agree : RowAgrees (state_of b)
