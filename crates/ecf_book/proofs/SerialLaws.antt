-- What a book makes known of its journal.
use Rattle.std.proofs.Common.{◌≡◌, List, [], ◌∷◌, map, refl, ap, ◌∙◌}
use Rattle.ecf_book.specs.Held.{Held, Holds}
use Rattle.ecf_book.specs.Kept.{IsSerial, journal_entries}
use Rattle.ecf_book.specs.Recorded.{Recorded, opening_of, state_of}
use Rattle.ecf_core.specs.Laws.{JournalIsLegal, LedgerIsSerial, NoWatchIsSerial, RowsAgree}
use Rattle.ecf_core.specs.Ledgers.{Ledger, Off, watched_serial}
use Rattle.ecf_journals.specs.Journals.{entries_of}
use Rattle.ecf_lang.specs.declared.receipt.Entry.{Entry}
use Rattle.ecf_verdicts.specs.Journals.{along}
use Rattle.ecf_verdicts.specs.Receipts.{serial}

pub serial_book : JournalIsLegal → LedgerIsSerial → NoWatchIsSerial → RowsAgree → (b : Recorded) (h : Held) → Holds b h → IsSerial b
serial_book legal ledger plain agree b h holds =
    let o = opening_of b.setup in
    let txs = along o.txs (state_of b).journal in
    let is : (state_of b).ledger ≡ record { receipts = (serial o.typed txs).receipts; store = (serial o.typed txs).store; watches = [] } =
    ledger o b.entries holds.legal ∙ ap (λ (offs : List Off). watched_serial o.typed [] offs txs) holds.matches.no_off ∙ plain o.typed txs in
    record {
      legal = legal o b.entries holds.legal;
      receipts = ap (λ (l : Ledger). l.receipts) is;
      store = ap (λ (l : Ledger). l.store) is;
      agree = agree o b.entries holds.legal;
    }

-- entries are their rows with their receipts
listed : (es : List Entry) → es ≡ entries_of (map (λ (e : Entry). e.row) es) (map (λ (e : Entry). e.receipt) es)
listed [] = refl
listed (e ∷ es) = ap (λ l. e ∷ l) (listed es)

pub entries_held : (b : Recorded) (h : Held) → Holds b h → h.journal ≡ journal_entries (state_of b)
entries_held b h holds = listed h.journal ∙ ap (λ l. entries_of l (map (λ (e : Entry). e.receipt) h.journal)) holds.matches.listed ∙ ap (entries_of (state_of b).journal) holds.matches.receipts
