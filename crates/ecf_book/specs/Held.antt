-- What a book holds beside its setup and its log, and how it is kept equal to what the log says.
use Rattle.std.specs.Prelude.{◌≡◌, ◌<◌, ◌≤◌, ◌*◌, ℕ, false, List, [], length, map}
use Rattle.ecf_book.specs.Kept.{IsSetup}
use Rattle.ecf_book.specs.Recorded.{Recorded, opening_of, state_of}
use Rattle.ecf_core.specs.declared.book.LogEntry.{LogEntry}
use Rattle.ecf_core.specs.Book.{Opening, Book}
use Rattle.ecf_core.specs.Counts.{is_off, most_entries}
use Rattle.ecf_core.specs.Legal.{IsHistory}
use Rattle.ecf_lang.specs.declared.receipt.Entry.{Entry}
use Rattle.ecf_lang.specs.Store.{Store}
use Rattle.ecf_rows.specs.Standing.{Standing, standing_of}
use Rattle.ecf_verdicts.specs.ListLemmas.{Each}

-- what a book holds beside its setup and its log
pub record Held : Type 0 where
  pub rows : Standing
  pub journal : List Entry
  pub tickets : ℕ
  pub store : Store

abbrev pub held : Standing → List Entry → ℕ → Store → Held
held rows journal tickets store = record { rows = rows; journal = journal; tickets = tickets; store = store }

-- what a book holds is that of a state without watches, which so many entries led to
pub record Matches (o : Opening) (s : Book) (entries : ℕ) (h : Held) : Type 0 where
  pub as_many : length s.rows ≡ length o.txs
  pub few_tickets : s.tickets ≤ entries
  pub no_watch : s.ledger.watches ≡ []
  pub no_off : s.offs ≡ []
  pub rows : h.rows ≡ standing_of o s
  pub listed : map (λ (e : Entry). e.row) h.journal ≡ s.journal
  pub receipts : map (λ (e : Entry). e.receipt) h.journal ≡ s.ledger.receipts
  pub tickets : h.tickets ≡ s.tickets
  pub store : h.store ≡ s.ledger.store

-- an entry is of one of so many rows, and of no watch
pub record IsOfRow (rows : ℕ) (e : LogEntry) : Type 0 where
  pub known : e.row < rows
  pub no_off : is_off e.what ≡ false

-- a book's history is legal and of its rows, and what it holds is that of the state that the history leads to
pub record Holds (b : Recorded) (h : Held) : Type 0 where
  pub setup : IsSetup b.setup
  pub legal : IsHistory (opening_of b.setup) b.entries
  pub of_rows : Each (IsOfRow (length b.setup.txs)) b.entries
  pub matches : Matches (opening_of b.setup) (state_of b) (length b.entries) h

-- a book holds what its history says, and has room for all that may come: a journal entry for each row, and all entries of each row
pub record Keeps (b : Recorded) (h : Held) (journal_room log_room : ℕ) : Type 0 where
  pub holds : Holds b h
  pub journal : length b.setup.txs ≤ journal_room
  pub log : most_entries * length b.setup.txs ≤ log_room
