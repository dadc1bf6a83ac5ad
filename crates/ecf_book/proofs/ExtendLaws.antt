-- Further rows: what a book holds is that of its history under the longer setup.
use Rattle.std.proofs.Common.{◌≡◌, ℕ, ◌+◌, ◌*◌, ◌≤◌, List, ◌++◌, length, All, sym, ap, ◌∙◌, subst, arith}
use Rattle.std.proofs.lemmas.List.{length-append, length-map, map-append}
use Rattle.std.proofs.lemmas.List.Elements.{All-append}
use Rattle.ecf_book.specs.Held.{Held, held, Matches, IsOfRow, Holds, Keeps}
use Rattle.ecf_book.specs.Recorded.{recorded, opening_of, state_of}
use Rattle.ecf_core.specs.declared.book.LogEntry.{LogEntry}
use Rattle.ecf_core.specs.declared.book.RowState.TheVariants as row
use Rattle.ecf_core.specs.Book.{Opening, Book, new_rows}
use Rattle.ecf_core.specs.Calls.{extend, with_transactions}
use Rattle.ecf_core.specs.Counts.{most_entries}
use Rattle.ecf_core.specs.Laws.{ExtendKeeps}
use Rattle.ecf_lang.specs.declared.limits.TheConstants.{MAX_TRANSACTIONS}
use Rattle.ecf_lang.specs.declared.receipt.Entry.{Entry}
use Rattle.ecf_lang.specs.declared.tx.Tx.{Tx}
use Rattle.ecf_lang.specs.declared.typed.Typed.{Typed}
use Rattle.ecf_lang.specs.Fits.{Fits}
use Rattle.ecf_rows.specs.Standing.{Standing, extended}
use Rattle.ecf_verdicts.specs.ListLemmas.{Each_weaker}

matches_more : (o : Opening) (s : Book) (n : ℕ) (h : Held) (rows : Standing) (more : List Tx) → Matches o s n h → rows ≡ extended h.rows more
    → Matches (with_transactions o more) (extend s more) n (held rows h.journal h.tickets h.store)
matches_more o s n h rows more m is = record {
  as_many = (let a = m.as_many in length-append s.rows (new_rows more) ∙ omega (arith, a, length-map more (λ (_ : Tx). row.Free 0), length-append o.txs more));
  few_tickets = m.few_tickets;
  no_watch = m.no_watch;
  no_off = m.no_off;
  rows = is ∙ ap (λ (t : Standing). extended t more) m.rows
      ∙ ap (λ (l : List ℕ). record { submitters = l; states = s.rows ++ new_rows more }) (sym (map-append (λ (tx : Tx). tx.submitter) o.txs more));
  listed = m.listed;
  receipts = m.receipts;
  tickets = m.tickets;
  store = m.store;
}

holds_more : ExtendKeeps → (typed : Typed) (txs more : List Tx) (es : List LogEntry) (h : Held) (rows : Standing) → Holds (recorded typed txs es) h → All (Fits typed) more
    → length txs + length more ≤ MAX_TRANSACTIONS → rows ≡ extended h.rows more → Holds (recorded typed (txs ++ more) es) (held rows h.journal h.tickets h.store)
holds_more keeps typed txs more es h rows holds fits few is =
    let o : Opening = opening_of (recorded typed txs es).setup in
    let kept = keeps o more es holds.legal in
    record {
      setup = record { limits = holds.setup.limits; fits = All-append (Fits typed) txs more holds.setup.fits fits; few = omega (arith, few, length-append txs more) };
      legal = kept.0;
      of_rows = Each_weaker (IsOfRow (length txs)) (IsOfRow (length (txs ++ more))) es (λ e k. record { known = (let a = k.known in omega (arith, a, length-append txs more)); no_off = k.no_off }) holds.of_rows;
      matches = subst (λ (s : Book). Matches (with_transactions o more) s (length es) (held rows h.journal h.tickets h.store)) (sym kept.1) (matches_more o (state_of (recorded typed txs es)) (length es) h rows more holds.matches is);
    }

-- the invariant of a book with further rows
pub keeps_more : ExtendKeeps → (typed : Typed) (txs more now : List Tx) (es later : List LogEntry) (h : Held) (rows : Standing) (journal : List Entry) (journal_room log_room now_journal now_log : ℕ)
    → now ≡ txs ++ more → later ≡ es → journal ≡ h.journal → Keeps (recorded typed txs es) h journal_room log_room → All (Fits typed) more → length txs + length more ≤ MAX_TRANSACTIONS
    → rows ≡ extended h.rows more → length txs + length more ≤ now_journal → most_entries * (length txs + length more) ≤ now_log
    → Keeps (recorded typed now later) (held rows journal h.tickets h.store) now_journal now_log
keeps_more keeps typed txs more now es later h rows journal jr lr jn ln is_now is_later is_journal kept fits few is room log_room =
    subst (λ (l : List Tx). Keeps (recorded typed l later) (held rows journal h.tickets h.store) jn ln) (sym is_now)
    (subst (λ (l : List LogEntry). Keeps (recorded typed (txs ++ more) l) (held rows journal h.tickets h.store) jn ln) (sym is_later)
    (subst (λ (l : List Entry). Keeps (recorded typed (txs ++ more) es) (held rows l h.tickets h.store) jn ln) (sym is_journal)
    (record {
      holds = holds_more keeps typed txs more es h rows kept.holds fits few is;
      journal = omega (arith, room, length-append txs more);
      log = subst (λ (n : ℕ). most_entries * n ≤ ln) (sym (length-append txs more)) log_room;
    })))
