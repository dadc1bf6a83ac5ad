-- A book whose transactions all have their receipts, in the order of its rows: further ones placed by `finish` stand behind them in theirs.
use Rattle.std.proofs.Common.{◌≡◌, ◌+◌, ◌++◌, ℕ, zero, suc, true, List, Result, Ok, Err, IfOk, OnOk, [], ◌∷◌, length, map, refl, ap, sym, subst, ◌∙◌, arith, append_assoc, append-nil, length-append}
use Rattle.std.specs.Prelude.{All, filter}
use Rattle.std.specs.List.{range_with_len}
use Rattle.std.proofs.lemmas.List.Elements.{All-nil, All-head, All-tail}
use Rattle.std.proofs.lemmas.List.{length-set}
use Rattle.ecf_book.specs.Kept.{IsSerial, journal_entries}
use Rattle.ecf_book.specs.Recorded.{Recorded, opening_of, opened, setup_of, state_of, with_entries, with_more}
use Rattle.ecf_core.specs.declared.book.LogEntry.{LogEntry}
use Rattle.ecf_core.specs.declared.book.LogWhat.{LogWhat}
use Rattle.ecf_core.specs.declared.book.LogWhat.TheVariants as log
use Rattle.ecf_core.specs.declared.book.RowState.{RowState}
use Rattle.ecf_core.specs.declared.book.RowState.TheVariants as row
use Rattle.ecf_core.specs.Book.{Opening, Book, is_done, new_book, new_rows, next_seq, after_change, after_entry, after_entries, after}
use Rattle.ecf_core.specs.Calls.{extend, finish, finishing_entry, freeing_entries, finishing_entries, with_transactions}
use Rattle.ecf_core.specs.Counts.{placed_rows}
use Rattle.ecf_core.specs.Laws.{ExtendKeeps, FinishEnds, JournalGrows}
use Rattle.ecf_core.specs.Legal.{IsHistory}
use Rattle.ecf_journals.specs.Journals.{entries_of}
use Rattle.ecf_lang.specs.declared.receipt.Entry.{Entry}
use Rattle.ecf_lang.specs.declared.tx.Tx.{Tx}
use Rattle.ecf_lang.specs.declared.typed.Typed.{Typed}
use Rattle.ecf_lang.specs.Store.{Store}
use Rattle.ecf_verdicts.specs.Journals.{along, places}
use Rattle.ecf_verdicts.specs.Receipts.{Serial, serial}
use Rattle.ecf_verdicts.specs.SerialLaws.{AlongPlaces}
use Rattle.ecf_host.specs.Run.{IsInOrder}
use Rattle.ecf_host.specs.Serial.{entries_in_order}

-- ---- entries after entries

after_both : (o : Opening) (b : Book) (some more : List LogEntry) → after_entries o b (some ++ more) ≡ after_entries o (after_entries o b some) more
unfolding after_entries
after_both o b [] more = refl
after_both o b (e ∷ some) more = after_both o (after_entry o b e) some more

-- entries add no row
change_keeps_rows : (o : Opening) (b : Book) (r ticket : ℕ) (what : LogWhat) → length (after_change o b r ticket what).rows ≡ length b.rows
change_keeps_rows o b r ticket log.Claimed = length-set b.rows r _
change_keeps_rows o b r ticket (log.Placed seq) = length-set b.rows r _
change_keeps_rows o b r ticket (log.Stale cell was now) = length-set b.rows r _
change_keeps_rows o b r ticket (log.LastStale cell was now) = length-set b.rows r _
change_keeps_rows o b r ticket (log.Here seq) = length-set b.rows r _
change_keeps_rows o b r ticket log.Freed = length-set b.rows r _
change_keeps_rows o b r ticket (log.Finished seq) = length-set b.rows r _
change_keeps_rows o b r ticket (log.Off k) = refl

keep_rows : (o : Opening) (b : Book) (entries : List LogEntry) → length (after_entries o b entries).rows ≡ length b.rows
unfolding after_entries
keep_rows o b [] = refl
keep_rows o b (e ∷ entries) = keep_rows o (after_entry o b e) entries ∙ change_keeps_rows o b e.row e.ticket e.what

-- ---- rows of which the last are new

abbrev AllDone : List RowState → Type 0
AllDone rows = All (λ row. is_done row ≡ true) rows

done_is_free : {A : Type 0} (claims : ℕ) → is_done (row.Free claims) ≡ true → A
done_is_free claims h = let no : ⊥ = cc in absurd no

done_is_claimed : {A : Type 0} (ticket claims stales : ℕ) → is_done (row.Claimed ticket claims stales) ≡ true → A
done_is_claimed ticket claims stales h = let no : ⊥ = cc in absurd no

new_freed : (at : ℕ) (txs : List Tx) → freeing_entries at (new_rows txs) ≡ []
unfolding freeing_entries
new_freed at [] = refl
new_freed at (tx ∷ txs) = new_freed (suc at) txs

none_freed : (at : ℕ) (rows : List RowState) (txs : List Tx) → AllDone rows → freeing_entries at (rows ++ new_rows txs) ≡ []
unfolding freeing_entries
none_freed at [] txs h = new_freed at txs
none_freed at (row.Free claims ∷ rows) txs h = done_is_free claims (All-head (λ row. is_done row ≡ true) (row.Free claims) rows h)
none_freed at (row.Claimed ticket claims stales ∷ rows) txs h = done_is_claimed ticket claims stales (All-head (λ row. is_done row ≡ true) (row.Claimed ticket claims stales) rows h)
none_freed at (row.Done seq ∷ rows) txs h = none_freed (suc at) rows txs (All-tail (λ row. is_done row ≡ true) (row.Done seq) rows h)

new_placed : (at seq : ℕ) (txs : List Tx) → placed_rows (finishing_entries at seq (new_rows txs)) ≡ range_with_len at (length txs)
unfolding finishing_entries
new_placed at seq [] = refl
new_placed at seq (tx ∷ txs) = ap (λ rows. at ∷ rows) (new_placed (suc at) (suc seq) txs ∙ ap (λ n. range_with_len n (length txs)) (one_more at)) where
  one_more : (n : ℕ) → suc n ≡ n + 1
  one_more n = omega arith

placed : (at seq : ℕ) (rows : List RowState) (txs : List Tx) → AllDone rows → placed_rows (finishing_entries at seq (rows ++ new_rows txs)) ≡ range_with_len (at + length rows) (length txs)
unfolding finishing_entries
placed at seq [] txs h = new_placed at seq txs ∙ ap (λ n. range_with_len n (length txs)) (none_more at) where
  none_more : (n : ℕ) → n ≡ n + 0
  none_more n = omega arith
placed at seq (row.Free claims ∷ rows) txs h = done_is_free claims (All-head (λ row. is_done row ≡ true) (row.Free claims) rows h)
placed at seq (row.Claimed ticket claims stales ∷ rows) txs h = done_is_claimed ticket claims stales (All-head (λ row. is_done row ≡ true) (row.Claimed ticket claims stales) rows h)
placed at seq (row.Done n ∷ rows) txs h =
    placed (suc at) seq rows txs (All-tail (λ row. is_done row ≡ true) (row.Done n) rows h) ∙ ap (λ n. range_with_len n (length txs)) (one_on at (length rows)) where
      one_on : (n m : ℕ) → suc n + m ≡ n + suc m
      one_on n m = omega arith

from_none : (n : ℕ) → 0 + n ≡ n
from_none n = omega arith

finish_places : (b : Book) (rows : List RowState) (txs : List Tx) → b.rows ≡ rows ++ new_rows txs → AllDone rows → placed_rows (finish b) ≡ range_with_len (length rows) (length txs)
unfolding finish
finish_places b rows txs is h =
    ap (λ rows. placed_rows (freeing_entries 0 rows ++ finishing_entries 0 (next_seq b) rows)) is
    ∙ ap (λ es. placed_rows (es ++ finishing_entries 0 (next_seq b) (rows ++ new_rows txs))) (none_freed 0 rows txs h)
    ∙ placed 0 (next_seq b) rows txs h
    ∙ ap (λ n. range_with_len n (length txs)) (from_none (length rows))

range_both : (first n m : ℕ) → range_with_len first n ++ range_with_len (first + n) m ≡ range_with_len first (n + m)
range_both first zero m = ap (λ k. range_with_len k m) (none_more first) ∙ ap (range_with_len first) (sym (from_none m)) where
  none_more : (n : ℕ) → n + 0 ≡ n
  none_more n = omega arith
range_both first (suc n) m =
    ap (λ rows. first ∷ rows) (ap (λ k. range_with_len (first + 1) n ++ range_with_len k m) (one_on first n) ∙ range_both (first + 1) n m)
    ∙ ap (range_with_len first) (one_out n m) where
      one_on : (k l : ℕ) → k + suc l ≡ k + 1 + l
      one_on k l = omega arith

      one_out : (k l : ℕ) → suc (k + l) ≡ suc k + l
      one_out k l = omega arith

length_new : (txs : List Tx) → length (new_rows txs) ≡ length txs
length_new [] = refl
length_new (tx ∷ txs) = ap suc (length_new txs)

-- ---- the book

pub opens : (typed : Typed) (book : Recorded) → book ≡ opened (setup_of typed []) → IsInOrder typed book
unfolding after_entries
opens typed book is = subst (IsInOrder typed) (sym is) (record { typed_is = refl; journal = refl; done = All-nil (λ row. is_done row ≡ true); as_many = refl })

pub opens_ok : {E : Type 0} (typed : Typed) (txs : List Tx) (result : Result Recorded E) → txs ≡ [] → IfOk result (λ book. book ≡ opened (setup_of typed txs)) → IfOk result (IsInOrder typed)
opens_ok typed txs (Ok book) none is = opens typed book (is ∙ ap (λ ts. opened (setup_of typed ts)) none)
opens_ok typed txs (Err e) none is = tt

module _ (extends : ExtendKeeps) (ends : FinishEnds) (grows : JournalGrows) (typed : Typed) (book : Recorded) (txs : List Tx) (h : IsInOrder typed book) (legal : IsHistory (opening_of book.setup) book.entries) where
  abbrev o : Opening
  o = with_transactions (opening_of book.setup) txs

  -- the state with the further rows
  abbrev s : Book
  s = after o book.entries

  s_is : s ≡ extend (state_of book) txs
  s_is = (extends (opening_of book.setup) txs book.entries legal).1

  s_legal : IsHistory o book.entries
  s_legal = (extends (opening_of book.setup) txs book.entries legal).0

  abbrev next : Recorded
  next = with_entries (with_more book txs) (finish (state_of (with_more book txs)))

  next_is : state_of next ≡ after_entries o s (finish s)
  next_is = after_both o (new_book o) book.entries (finish s)

  rows_are : s.rows ≡ (state_of book).rows ++ new_rows txs
  rows_are = ap (λ (b : Book). b.rows) s_is

  journal_is : (state_of next).journal ≡ places (book.setup.txs ++ txs)
  journal_is =
      ap (λ (b : Book). b.journal) next_is
      ∙ grows o s (finish s)
      ∙ ap (λ (b : Book). b.journal ++ placed_rows (finish s)) s_is
      ∙ ap (λ rows. rows ++ placed_rows (finish s)) h.journal
      ∙ ap (λ rows. places book.setup.txs ++ rows) (finish_places s (state_of book).rows txs rows_are h.done)
      ∙ ap (λ n. places book.setup.txs ++ range_with_len n (length txs)) h.as_many
      ∙ ap (λ n. places book.setup.txs ++ range_with_len n (length txs)) (sym (from_none (length book.setup.txs)))
      ∙ range_both 0 (length book.setup.txs) (length txs)
      ∙ ap (range_with_len 0) (sym (length-append book.setup.txs txs))

  many : length (state_of next).rows ≡ length (book.setup.txs ++ txs)
  many =
      ap (λ (b : Book). length b.rows) next_is
      ∙ keep_rows o s (finish s)
      ∙ ap length rows_are
      ∙ length-append (state_of book).rows (new_rows txs)
      ∙ ap (λ n. n + length (new_rows txs)) h.as_many
      ∙ ap (λ n. length book.setup.txs + n) (length_new txs)
      ∙ sym (length-append book.setup.txs txs)

  pub places_behind : (later : Recorded) → later ≡ next → IsInOrder typed later
  places_behind later is = subst (IsInOrder typed) (sym is) (record {
    typed_is = h.typed_is;
    journal = journal_is;
    done = subst (λ (b : Book). AllDone b.rows) (sym next_is) (ends o book.entries s_legal).done;
    as_many = many;
  })

  pub places_ok : {T E : Type 0} (extended later : Recorded) (result : Result T E) → extended ≡ with_more book txs → OnOk result (later ≡ with_entries extended (finish (state_of extended))) → OnOk result (IsInOrder typed later)
  places_ok extended later (Ok value) more is = places_behind later (is ∙ ap (λ b. with_entries b (finish (state_of b))) more)
  places_ok extended later (Err e) more is = tt

module _ (all : AlongPlaces) (typed : Typed) (book : Recorded) (h : IsInOrder typed book) (serial_ : IsSerial book) where
  run_is : serial book.setup.typed (along book.setup.txs (state_of book).journal) ≡ serial typed book.setup.txs
  run_is =
      ap (λ journal. serial book.setup.typed (along book.setup.txs journal)) h.journal
      ∙ ap (λ txs. serial book.setup.typed txs) (all book.setup.txs)
      ∙ ap (λ t. serial t book.setup.txs) h.typed_is

  pub entries_are : (entries : List Entry) → entries ≡ journal_entries (state_of book) → entries ≡ entries_in_order typed book.setup.txs
  entries_are entries is =
      is
      ∙ ap (λ journal. entries_of journal (state_of book).ledger.receipts) h.journal
      ∙ ap (entries_of (places book.setup.txs)) (serial_.receipts ∙ ap (λ (s : Serial). s.receipts) run_is)

  pub store_is : (store : Store) → store ≡ (state_of book).ledger.store → store ≡ (serial typed book.setup.txs).store
  store_is store is = is ∙ serial_.store ∙ ap (λ (s : Serial). s.store) run_is
