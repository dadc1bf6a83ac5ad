-- What it is for a schedule to go as written.
use Rattle.std.specs.Prelude.{◌≡◌, ℕ, List, [], map}
use Rattle.std.specs.List.{flat_map}
use Rattle.ecf_lang.specs.declared.receipt.Receipt.{Receipt}
use Rattle.ecf_lang.specs.declared.tx.Tx.{Tx}
use Rattle.ecf_core.specs.declared.book.RowState.{RowState}
use Rattle.ecf_core.specs.declared.book.LogEntry.{LogEntry}
use Rattle.ecf_core.specs.declared.book.LogWhat.{LogWhat}
use Rattle.ecf_core.specs.declared.event.Event.{Event}
use Rattle.ecf_core.specs.declared.event.Reply.{Reply}
use Rattle.ecf_core.specs.Book.{Opening, Book, new_book}
use Rattle.ecf_core.specs.Calls.{finish}
use Rattle.ecf_core.specs.Core.{Core, initial_core, replies, entries_added, core_after, schedule_book}
use Rattle.ecf_core.specs.Ledgers.{Ledger}
use Rattle.ecf_core_cases.specs.Adder.{adder, holds}

-- a line of a schedule: an event, its reply, and the entries that it adds
pub record Line : Type 0 where
  pub event : Event
  pub reply : Reply
  pub entries : List LogEntry

-- a line that adds no entry
abbrev pub line : Event → Reply → Line
line event reply = record { event = event; reply = reply; entries = [] }

-- a line with its entries
abbrev pub line_with : Event → Reply → List LogEntry → Line
line_with event reply entries = record { event = event; reply = reply; entries = entries }

-- an entry of a row under a ticket
abbrev pub entry : ℕ → ℕ → LogWhat → LogEntry
entry r ticket what = record { row = r; ticket = ticket; what = what }

-- transactions of the adder, without watches
abbrev pub opening : List Tx → Opening
opening txs = record { typed = adder; txs = txs; watches = [] }

-- receipts, and x at a number
abbrev pub ledger : List Receipt → ℕ → Ledger
ledger receipts n = record { receipts = receipts; store = holds n; watches = [] }

-- a book by its rows, its journal, the tickets given and its ledger
abbrev pub book : List RowState → List ℕ → ℕ → Ledger → Book
book rows journal tickets ledger = record { rows = rows; journal = journal; tickets = tickets; offs = []; ledger = ledger }

-- a schedule: its lines, the entries that `finish` adds after them, and the book then
pub record Schedule : Type 0 where
  pub opening : Opening
  pub lines : List Line
  pub finishing : List LogEntry
  pub last : Book

-- the core before the first event
abbrev pub start : Schedule → Core
start s = initial_core (new_book s.opening)

-- the events of a schedule
abbrev pub events : Schedule → List Event
events s = map (λ (l : Line). l.event) s.lines

-- it goes as written: each event has its reply and adds its entries, and `finish` ends in the last book
pub record Goes (s : Schedule) : Type 0 where
  pub replies : replies s.opening (start s) (events s) ≡ map (λ (l : Line). l.reply) s.lines
  pub entries : entries_added s.opening (start s) (events s) ≡ flat_map (λ (l : Line). l.entries) s.lines
  pub finishing : finish (core_after s.opening (start s) (events s)).book ≡ s.finishing
  pub last : schedule_book s.opening (new_book s.opening) (events s) ≡ s.last
