-- One entry more: what a book holds then is what its history says then, and there is room for it.
use Rattle.std.proofs.Common.{◌≡◌, ℕ, suc, zero, ◌+◌, ◌*◌, ◌<◌, ◌≤◌, Bool, true, false, cond, not, ◌==◌, List, [], ◌∷◌, ◌++◌, length, map, Option, Some, None, refl, sym, ap, ◌∙◌, subst, arith}
use Rattle.std.specs.Prelude.{slice_get, slice_index_or}
use Rattle.std.specs.Option.{option_map_or}
use Rattle.std.proofs.lemmas.List.{length_push, length-set, length-map, map-append, length-append}
use Rattle.std.proofs.lemmas.List.FromFn.{length-range_with_len}
use Rattle.std.proofs.lemmas.List.Sorted.{length_permutation}
use Rattle.ecf_book.specs.Held.{Held, held, Matches, IsOfRow, Holds, Keeps}
use Rattle.ecf_book.specs.Recorded.{Recorded, recorded, opening_of, state_of, with_entries}
use Rattle.ecf_book.specs.Steps.{MayCome, IsPlacing, entry}
use Rattle.ecf_book.proofs.FindLaws.{false_not_true, none_not_some, some_same, found_below}
use Rattle.ecf_book.proofs.HistoryLaws.{after_one, legal_more, plain_ledger}
use Rattle.ecf_book.proofs.RoomLaws.{few_in_all}
use Rattle.ecf_core.specs.declared.book.LogEntry.{LogEntry}
use Rattle.ecf_core.specs.declared.book.LogWhat.{LogWhat}
use Rattle.ecf_core.specs.declared.book.LogWhat.TheVariants as log
use Rattle.ecf_core.specs.declared.book.RowState.{RowState}
use Rattle.ecf_core.specs.declared.book.RowState.TheVariants as row
use Rattle.ecf_core.specs.Book.{Opening, Book, row_at, stales_under, next_seq, claimable_row, may_be_claimed, is_done, as_claimed, as_stale, with_row, with_placed, after_change, after_entry, after_entries, new_book, after}
use Rattle.ecf_core.specs.Calls.{finish}
use Rattle.ecf_core.specs.Counts.{is_off, is_stale, places_row, most_entries, placed_rows}
use Rattle.ecf_core.specs.Laws.{FewEntries, FinishEnds, JournalGrows}
use Rattle.ecf_core.specs.Ledgers.{Ledger, ledger_after}
use Rattle.ecf_core.specs.Legal.{IsLegalChange, IsHistory}
use Rattle.ecf_core.specs.Watches.{Watch, Watches}
use Rattle.ecf_lang.specs.declared.limits.TheConstants.{MAX_STALES, MAX_TRANSACTIONS}
use Rattle.ecf_lang.specs.declared.receipt.Entry.{Entry}
use Rattle.ecf_lang.specs.declared.receipt.Receipt.{Receipt}
use Rattle.ecf_lang.specs.declared.tx.Tx.{Tx}
use Rattle.ecf_lang.specs.declared.typed.Typed.{Typed}
use Rattle.ecf_lang.specs.Store.{Store}
use Rattle.ecf_rows.specs.Standing.{Standing, standing_of, state_at, with_state, stales_of, may_claim}
use Rattle.ecf_verdicts.specs.Journals.{places}
use Rattle.ecf_verdicts.specs.ListLemmas.{Each, find_some}
use Rattle.ecf_verdicts.specs.Receipts.{receipt_on, next_store}

-- one more of which a fact holds
Each_more : {X : Type 0} (P : X → Type 0) (xs : List X) (y : X) → Each P xs → P y → Each P (xs ++ y ∷ [])
Each_more P [] y h p = (p, tt)
Each_more P (x ∷ xs) y h p = (h.0, Each_more P xs y h.1 p)

-- a row that is held is among the rows
pub held_below : (rows : List RowState) (r t n : ℕ) → stales_under t (slice_index_or rows r (row.Free 0)) ≡ Some n → r < length rows
held_below [] r t n e = none_not_some e
held_below (x ∷ rows) zero t n e = omega arith
held_below (x ∷ rows) (suc r) t n e = omega (arith, held_below rows r t n e)

no_watch_in : (ws : Watches) (k : ℕ) (w : Watch) → ws ≡ [] → slice_get ws k ≡ Some (Some w) → ⊥
no_watch_in [] k w e f = none_not_some f
no_watch_in (x ∷ ws) k w e f = cc

-- a legal change is of a row, where no watch is in
of_row : (o : Opening) (b : Book) (r t : ℕ) (what : LogWhat) → IsLegalChange o b r t what → length b.rows ≡ length o.txs → b.ledger.watches ≡ [] → (r < length o.txs) × (is_off what ≡ false)
of_row o b r t log.Claimed h l e = (found_below (may_be_claimed o b) (length o.txs) r h.0, refl)
of_row o b r t (log.Placed seq) h l e = ((let k = held_below b.rows r t h.0.0 h.0.1 in omega (arith, k, l)), refl)
of_row o b r t (log.Stale cell was now) h l e = ((let k = held_below b.rows r t h.0.0 h.0.1 in omega (arith, k, l)), refl)
of_row o b r t (log.LastStale cell was now) h l e = ((let k = held_below b.rows r t h.0.0 h.0.1 in omega (arith, k, l)), refl)
of_row o b r t (log.Here seq) h l e = ((let k = held_below b.rows r t h.0.0 h.0.1 in omega (arith, k, l)), refl)
of_row o b r t log.Freed h l e = ((let k = held_below b.rows r t h.0 h.1 in omega (arith, k, l)), refl)
of_row o b r t (log.Finished seq) h l e = (found_below (λ q. not (is_done (row_at b q))) (length o.txs) r h.1, refl)
of_row o b r t (log.Off k) h l e = absurd (no_watch_in b.ledger.watches k h.1.0 e h.1.1)

-- a book's history with an entry that may come
pub history_one : (b : Recorded) (h : Held) (e : LogEntry) → Holds b h → MayCome b e → IsHistory (opening_of b.setup) (b.entries ++ e ∷ [])
history_one b h e k may = legal_more (opening_of b.setup) (new_book (opening_of b.setup)) b.entries (e ∷ []) k.legal (may, tt)

of_rows_one : (b : Recorded) (h : Held) (e : LogEntry) → Holds b h → MayCome b e → Each (IsOfRow (length b.setup.txs)) (b.entries ++ e ∷ [])
of_rows_one b h e k may =
    let is = of_row (opening_of b.setup) (state_of b) e.row e.ticket e.what may k.matches.as_many k.matches.no_watch in
    Each_more (IsOfRow (length b.setup.txs)) b.entries e k.of_rows (record { known = is.0; no_off = is.1 })

-- the invariant of a book, with an entry more
holds_one : (b : Recorded) (h k : Held) (e : LogEntry) → Holds b h → MayCome b e → Matches (opening_of b.setup) (after_entry (opening_of b.setup) (state_of b) e) (suc (length b.entries)) k
    → Holds (with_entries b (e ∷ [])) k
holds_one b h k e holds may m =
    let o : Opening = opening_of b.setup in
    let n : length (b.entries ++ e ∷ []) ≡ suc (length b.entries) = omega (arith, length_push b.entries e) in
    record {
      setup = holds.setup;
      legal = history_one b h e holds may;
      of_rows = of_rows_one b h e holds may;
      matches = subst (λ (s : Book). Matches o s (length (b.entries ++ e ∷ [])) k) (sym (after_one o (new_book o) b.entries e))
          (subst (λ (l : ℕ). Matches o (after_entry o (state_of b) e) l k) (sym n) m);
    }

pub keeps_one : (typed : Typed) (txs : List Tx) (es later : List LogEntry) (h k : Held) (journal_room now_journal log_room now_log : ℕ) (e : LogEntry)
    → later ≡ es ++ e ∷ [] → now_journal ≡ journal_room → now_log ≡ log_room
    → Keeps (recorded typed txs es) h journal_room log_room → MayCome (recorded typed txs es) e
    → Matches (opening_of (recorded typed txs es).setup) (after_entry (opening_of (recorded typed txs es).setup) (state_of (recorded typed txs es)) e) (suc (length es)) k
    → Keeps (recorded typed txs later) k now_journal now_log
keeps_one typed txs es later h k jr jn lr ln e is same_journal same_log keeps may m =
    subst (λ l. Keeps (recorded typed txs l) k jn ln) (sym is) (record {
      holds = holds_one (recorded typed txs es) h k e keeps.holds may m;
      journal = (let a = keeps.journal in omega (arith, a, same_journal));
      log = subst (λ (l : ℕ). most_entries * length txs ≤ l) (sym same_log) keeps.log;
    })

-- there is room for the entry
pub log_room : FewEntries → (b : Recorded) (h : Held) (journal_room log_room : ℕ) (e : LogEntry) → Keeps b h journal_room log_room → MayCome b e → length b.entries < log_room
log_room few b h jr lr e keeps may =
    let o : Opening = opening_of b.setup in
    let all = few_in_all most_entries (length b.setup.txs) (b.entries ++ e ∷ []) (of_rows_one b h e keeps.holds may) (few o (b.entries ++ e ∷ []) (history_one b h e keeps.holds may)) in
    let k = keeps.log in
    omega (arith, all, k, length_push b.entries e)

-- what a book holds once the state of a row changed
pub changed : (o : Opening) (s : Book) (n r : ℕ) (h : Held) (rows : Standing) (f : RowState → RowState) → Matches o s n h
    → rows ≡ with_state h.rows r (f (state_at h.rows r)) → Matches o (with_row s r (f (row_at s r))) (suc n) (held rows h.journal h.tickets h.store)
changed o s n r h rows f m is = record {
  as_many = length-set s.rows r (f (row_at s r)) ∙ m.as_many;
  few_tickets = (let a = m.few_tickets in omega (arith, a));
  no_watch = m.no_watch;
  no_off = m.no_off;
  rows = is ∙ ap (λ (t : Standing). with_state t r (f (state_at t r))) m.rows;
  listed = m.listed;
  receipts = m.receipts;
  tickets = m.tickets;
  store = m.store;
}

-- and once it was claimed
pub claimed : (o : Opening) (s : Book) (n r ticket now : ℕ) (h : Held) (rows : Standing) → Matches o s n h → now ≡ suc s.tickets
    → rows ≡ with_state h.rows r (as_claimed ticket (state_at h.rows r)) → Matches o (after_change o s r ticket log.Claimed) (suc n) (held rows h.journal now h.store)
claimed o s n r ticket now h rows m more is = record {
  as_many = length-set s.rows r (as_claimed ticket (row_at s r)) ∙ m.as_many;
  few_tickets = (let a = m.few_tickets in omega (arith, a));
  no_watch = m.no_watch;
  no_off = m.no_off;
  rows = is ∙ ap (λ (t : Standing). with_state t r (as_claimed ticket (state_at t r))) m.rows;
  listed = m.listed;
  receipts = m.receipts;
  tickets = more;
  store = m.store;
}

-- the ledger once a row was placed
placed_ledger : (o : Opening) (s : Book) (r : ℕ) (tx : Tx) → slice_get o.txs r ≡ Some tx → s.ledger.watches ≡ []
    → (with_placed o s r).ledger ≡ record { receipts = s.ledger.receipts ++ receipt_on o.typed s.ledger.store tx ∷ []; store = next_store o.typed s.ledger.store tx; watches = [] }
placed_ledger o s r tx at e = ap (λ (x : Option Tx). option_map_or (λ (t : Tx). ledger_after o.typed t s.ledger) x s.ledger) at ∙ plain_ledger o.typed tx s.ledger e

-- and once it was placed
pub placed : (b : Recorded) (n r seq : ℕ) (receipt : Receipt) (next : Store) (h : Held) (rows : Standing) (journal : List Entry)
    → Matches (opening_of b.setup) (state_of b) n h → IsPlacing b r receipt next → seq ≡ next_seq (state_of b)
    → rows ≡ with_state h.rows r (row.Done seq) → journal ≡ h.journal ++ record { row = r; receipt = receipt } ∷ []
    → Matches (opening_of b.setup) (with_placed (opening_of b.setup) (state_of b) r) (suc n) (held rows journal h.tickets next)
placed b n r seq receipt next h rows journal m p number is more =
    let o : Opening = opening_of b.setup in
    let s : Book = state_of b in
    let ledger = placed_ledger o s r p.tx p.at m.no_watch in
    record {
      as_many = length-set s.rows r (row.Done (next_seq s)) ∙ m.as_many;
      few_tickets = (let a = m.few_tickets in omega (arith, a));
      no_watch = ap (λ (l : Ledger). l.watches) ledger;
      no_off = m.no_off;
      rows = is ∙ ap (λ (t : Standing). with_state t r (row.Done seq)) m.rows ∙ ap (λ (q : ℕ). with_state (standing_of o s) r (row.Done q)) number;
      listed = ap (map (λ (e : Entry). e.row)) more ∙ map-append (λ (e : Entry). e.row) h.journal (record { row = r; receipt = receipt } ∷ []) ∙ ap (λ l. l ++ r ∷ []) m.listed;
      receipts = ap (map (λ (e : Entry). e.receipt)) more ∙ map-append (λ (e : Entry). e.receipt) h.journal (record { row = r; receipt = receipt } ∷ [])
          ∙ ap (λ l. l ++ receipt ∷ []) m.receipts ∙ ap (λ (x : Receipt). s.ledger.receipts ++ x ∷ []) p.right ∙ sym (ap (λ (l : Ledger). l.receipts) ledger);
      tickets = m.tickets;
      store = p.leaves ∙ sym (ap (λ (l : Ledger). l.store) ledger);
    }

-- a change that places is `with_placed`
pub placing_change : (o : Opening) (s : Book) (r t : ℕ) (what : LogWhat) → places_row what ≡ true → after_change o s r t what ≡ with_placed o s r
placing_change o s r t log.Claimed e = false_not_true refl e
placing_change o s r t (log.Placed seq) e = refl
placing_change o s r t (log.Stale cell was now) e = false_not_true refl e
placing_change o s r t (log.LastStale cell was now) e = false_not_true refl e
placing_change o s r t (log.Here seq) e = refl
placing_change o s r t log.Freed e = false_not_true refl e
placing_change o s r t (log.Finished seq) e = refl
placing_change o s r t (log.Off k) e = false_not_true refl e

-- a change by a stale commit counts one more
pub stale_change : (o : Opening) (s : Book) (r t : ℕ) (what : LogWhat) → is_stale what ≡ true → after_change o s r t what ≡ with_row s r (as_stale (row_at s r))
stale_change o s r t log.Claimed e = false_not_true refl e
stale_change o s r t (log.Placed seq) e = false_not_true refl e
stale_change o s r t (log.Stale cell was now) e = refl
stale_change o s r t (log.LastStale cell was now) e = refl
stale_change o s r t (log.Here seq) e = false_not_true refl e
stale_change o s r t log.Freed e = false_not_true refl e
stale_change o s r t (log.Finished seq) e = false_not_true refl e
stale_change o s r t (log.Off k) e = false_not_true refl e

-- the stale commits of a row's state under a ticket
pub stales_are : (x : RowState) (t n : ℕ) → stales_under t x ≡ Some n → stales_of x ≡ n
stales_are (row.Free claims) t n e = none_not_some e
stales_are (row.Claimed given claims stales) t n e = go (given == t) e
  where
    go : (c : Bool) → cond c (Some stales) None ≡ Some n → stales ≡ n
    go true f = some_same stales n f
    go false f = none_not_some f
stales_are (row.Done seq) t n e = none_not_some e

-- where a stale commit may come, there were fewer than there may be
pub stales_left : (o : Opening) (s : Book) (r t : ℕ) (what : LogWhat) → is_stale what ≡ true → IsLegalChange o s r t what → stales_of (row_at s r) < MAX_STALES
stales_left o s r t log.Claimed e h = false_not_true refl e
stales_left o s r t (log.Placed seq) e h = false_not_true refl e
stales_left o s r t (log.Stale cell was now) e h = (let n = stales_are (row_at s r) t h.0.0 h.0.1 in let l = h.0.2 in omega (arith, n, l))
stales_left o s r t (log.LastStale cell was now) e h = (let n = stales_are (row_at s r) t h.0.0 h.0.1 in let l = h.0.2 in omega (arith, n, l))
stales_left o s r t (log.Here seq) e h = false_not_true refl e
stales_left o s r t log.Freed e h = false_not_true refl e
stales_left o s r t (log.Finished seq) e h = false_not_true refl e
stales_left o s r t (log.Off k) e h = false_not_true refl e

-- a journal is no longer than there are transactions
pub journal_within : FinishEnds → JournalGrows → (o : Opening) (es : List LogEntry) → IsHistory o es → length (after o es).journal ≤ length o.txs
journal_within ends grows o es h =
    let b : Book = after o es in
    let f = ends o es h in
    let more = grows o b (finish b) in
    let whole = length_permutation (places o.txs) (after_entries o b (finish b)).journal f.whole.each_once in
    omega (arith, whole, ap (λ l. length l) more, length-append b.journal (placed_rows (finish b)), length-range_with_len 0 (length o.txs))

-- there is room for a receipt where one may come
pub journal_room : FinishEnds → JournalGrows → (b : Recorded) (h : Held) (journal_room log_room : ℕ) (e : LogEntry) → Keeps b h journal_room log_room → MayCome b e → places_row e.what ≡ true
    → length h.journal < journal_room
journal_room ends grows b h jr lr e keeps may places =
    let o : Opening = opening_of b.setup in
    let within = journal_within ends grows o (b.entries ++ e ∷ []) (history_one b h e keeps.holds may) in
    let now : after o (b.entries ++ e ∷ []) ≡ with_placed o (state_of b) e.row = after_one o (new_book o) b.entries e ∙ placing_change o (state_of b) e.row e.ticket e.what places in
    let long : length (after o (b.entries ++ e ∷ [])).journal ≡ suc (length (state_of b).journal) = ap (λ (s : Book). length s.journal) now ∙ omega (arith, length_push (state_of b).journal e.row) in
    let same : length h.journal ≡ length (state_of b).journal = sym (length-map h.journal (λ (x : Entry). x.row)) ∙ ap (λ l. length l) keeps.holds.matches.listed in
    let room = keeps.journal in
    omega (arith, within, long, same, room)

-- a history is short
pub short_history : FewEntries → (b : Recorded) (h : Held) (e : LogEntry) → Holds b h → MayCome b e → length b.entries < most_entries * MAX_TRANSACTIONS
short_history few b h e holds may =
    let all : length (b.entries ++ e ∷ []) ≤ most_entries * length b.setup.txs = few_in_all most_entries (length b.setup.txs) (b.entries ++ e ∷ []) (of_rows_one b h e holds may) (few (opening_of b.setup) (b.entries ++ e ∷ []) (history_one b h e holds may)) in
    let most : length b.setup.txs ≤ MAX_TRANSACTIONS = holds.setup.few in
    omega (arith, all, most, length_push b.entries e)

-- a journal has no more entries than there may be transactions
pub short_journal : FinishEnds → JournalGrows → (b : Recorded) (h : Held) → Holds b h → length h.journal ≤ MAX_TRANSACTIONS
short_journal ends grows b h holds =
    let within = journal_within ends grows (opening_of b.setup) b.entries holds.legal in
    let same : length h.journal ≡ length (state_of b).journal = sym (length-map h.journal (λ (x : Entry). x.row)) ∙ ap (λ l. length l) holds.matches.listed in
    let most : length b.setup.txs ≤ MAX_TRANSACTIONS = holds.setup.few in
    omega (arith, within, same, most)

-- the number of the next entry of what is held
pub next_number : (o : Opening) (s : Book) (n : ℕ) (h : Held) → Matches o s n h → length h.journal + 1 ≡ next_seq s
next_number o s n h m = (let same : length h.journal ≡ length s.journal = sym (length-map h.journal (λ (x : Entry). x.row)) ∙ ap (λ l. length l) m.listed in omega (arith, same))

-- what a book holds once a stale commit was counted
pub counted : (o : Opening) (s : Book) (n r t : ℕ) (what : LogWhat) (h : Held) (rows : Standing) → is_stale what ≡ true → Matches o s n h
    → rows ≡ with_state h.rows r (as_stale (state_at h.rows r)) → Matches o (after_change o s r t what) (suc n) (held rows h.journal h.tickets h.store)
counted o s n r t what h rows e m is =
    subst (λ (z : Book). Matches o z (suc n) (held rows h.journal h.tickets h.store)) (sym (stale_change o s r t what e)) (changed o s n r h rows as_stale m is)

-- and once a row was placed by a change
pub placed_by : (b : Recorded) (n r seq t : ℕ) (what : LogWhat) (receipt : Receipt) (next : Store) (h : Held) (rows : Standing) (journal : List Entry)
    → places_row what ≡ true → Matches (opening_of b.setup) (state_of b) n h → IsPlacing b r receipt next → seq ≡ next_seq (state_of b)
    → rows ≡ with_state h.rows r (row.Done seq) → journal ≡ h.journal ++ record { row = r; receipt = receipt } ∷ []
    → Matches (opening_of b.setup) (after_change (opening_of b.setup) (state_of b) r t what) (suc n) (held rows journal h.tickets next)
placed_by b n r seq t what receipt next h rows journal e m p number is more =
    let o : Opening = opening_of b.setup in
    subst (λ (z : Book). Matches o z (suc n) (held rows journal h.tickets next)) (sym (placing_change o (state_of b) r t what e)) (placed b n r seq receipt next h rows journal m p number is more)

-- the least row that may be claimed may be
pub may_of_first : (o : Opening) (s : Book) (r : ℕ) → claimable_row o s ≡ Some r → may_be_claimed o s r ≡ true
may_of_first o s r e = (find_some (may_be_claimed o s) (places o.txs) r e).1

-- what a claim requires of the rows
pub claim_ready : (b : Recorded) (h : Held) (r : ℕ) → Holds b h → claimable_row (opening_of b.setup) (state_of b) ≡ Some r → may_claim h.rows r ≡ true
claim_ready b h r holds e = subst (λ (t : Standing). may_claim t r ≡ true) (sym holds.matches.rows) (may_of_first (opening_of b.setup) (state_of b) r e)

-- what a stale commit requires of the rows
pub stale_ready : (b : Recorded) (h : Held) (r t : ℕ) (what : LogWhat) → Holds b h → is_stale what ≡ true → MayCome b (entry r t what) → stales_of (state_at h.rows r) < MAX_STALES
stale_ready b h r t what holds e may = subst (λ (z : Standing). stales_of (state_at z r) < MAX_STALES) (sym holds.matches.rows) (stales_left (opening_of b.setup) (state_of b) r t what e may)
