-- A book as contracts see it: what it was opened with, and the entries of its history.
use Rattle.std.specs.Prelude.{List, [], ◌++◌}
use Rattle.ecf_book.specs.declared.setup.Setup.{Setup}
use Rattle.ecf_core.specs.declared.book.LogEntry.{LogEntry}
use Rattle.ecf_core.specs.Book.{Opening, Book, after}
use Rattle.ecf_lang.specs.declared.tx.Tx.{Tx}
use Rattle.ecf_lang.specs.declared.typed.Typed.{Typed}

-- a book: its setup, and the entries of its history
pub record Recorded : Type 0 where
  pub setup : Setup
  pub entries : List LogEntry

-- a contract and transactions as a setup
abbrev pub setup_of : Typed → List Tx → Setup
setup_of typed txs = record { typed = typed; txs = txs }

-- a book by its parts
abbrev pub recorded : Typed → List Tx → List LogEntry → Recorded
recorded typed txs entries = record { setup = setup_of typed txs; entries = entries }

-- the opening of a setup; it has no watches
abbrev pub opening_of : Setup → Opening
opening_of s = record { typed = s.typed; txs = s.txs; watches = [] }

-- a book without entries
abbrev pub opened : Setup → Recorded
opened s = record { setup = s; entries = [] }

-- the state that the history of a book leads to
abbrev pub state_of : Recorded → Book
state_of b = after (opening_of b.setup) b.entries

-- a book with further entries
abbrev pub with_entries : Recorded → List LogEntry → Recorded
with_entries b entries = record { setup = b.setup; entries = b.entries ++ entries }

-- a book with further transactions
abbrev pub with_more : Recorded → List Tx → Recorded
with_more b txs = record { setup = setup_of b.setup.typed (b.setup.txs ++ txs); entries = b.entries }
