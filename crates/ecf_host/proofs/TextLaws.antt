-- The lines of the earlier transactions are the first ones, whatever further transactions come behind them.
use Rattle.std.proofs.Common.{◌≡◌, ◌==◌, ◌<◌, ◌≤◌, ◌+◌, ◌++◌, ℕ, zero, suc, false, List, [], ◌∷◌, Option, take, drop, length, refl, ap, sym, subst, ◌∙◌, arith, append_assoc, append-nil, length-append}
use Rattle.std.proofs.lemmas.List.Sums.{sum_by-cons}
use Rattle.std.specs.Prelude.{All, cond, count_by, slice_get}
use Rattle.std.specs.List.{range_with_len}
use Rattle.std.specs.BTreeMap.{BTreeMap}
use Rattle.std.specs.Option.{option_map_or}
use Rattle.std.proofs.lemmas.List.Elements.{All-nil, All-cons, All-head, All-tail, All-append}
use Rattle.ecf_journals.specs.Journals.{entries_of, text_along}
use Rattle.ecf_lang.specs.declared.receipt.Entry.{Entry}
use Rattle.ecf_lang.specs.declared.receipt.Stop.{Stop}
use Rattle.ecf_lang.specs.declared.tx.Tx.{Tx}
use Rattle.ecf_lang.specs.declared.typed.Typed.{Typed}
use Rattle.ecf_lang.specs.Genesis.{genesis}
use Rattle.ecf_lang.specs.Store.{Store}
use Rattle.ecf_lines.specs.Stream.{StreamSaid}
use Rattle.ecf_receipts.specs.Numbers.{CountsEntries}
use Rattle.ecf_texts.specs.Entries.{line_text, tx_of, is_of, entry_line, lines_after, text_of_entries}
use Rattle.ecf_texts.specs.Journal.{head_text, tail_text, journal_text}
use Rattle.ecf_verdicts.specs.Journals.{along, places}
use Rattle.ecf_verdicts.specs.Receipts.{Serial, receipt_on, next_store, serial, serial_from}
use Rattle.ecf_verdicts.specs.SerialLaws.{AlongPlaces}
use Rattle.ecf_host.specs.Serial.{entries_in_order}
use Rattle.ecf_host.specs.Rounds.{receipts_text, further_text, rest_text}

-- ---- entries of rows that are there

-- the entry is of one of these transactions
abbrev pub IsOf : List Tx → Entry → Type 0
IsOf txs entry = entry.row < length txs

get_first : (txs more : List Tx) (row : ℕ) → row < length txs → slice_get (txs ++ more) row ≡ slice_get txs row
get_first [] more row h = absurd (omega arith)
get_first (tx ∷ txs) more zero h = refl
get_first (tx ∷ txs) more (suc row) h = get_first txs more row (omega arith)

module _ (typed : Typed) (txs more : List Tx) where
  tx_first : (entry : Entry) → IsOf txs entry → tx_of (txs ++ more) entry ≡ tx_of txs entry
  tx_first entry h = get_first txs more entry.row h

  of_first : (submitter : ℕ) (entry : Entry) → IsOf txs entry → is_of (txs ++ more) submitter entry ≡ is_of txs submitter entry
  of_first submitter entry h = ap (λ o. option_map_or (λ (tx : Tx). tx.submitter == submitter) o false) (tx_first entry h)

  count_first : (submitter : ℕ) (entries : List Entry) → All (IsOf txs) entries → count_by (is_of (txs ++ more) submitter) entries ≡ count_by (is_of txs submitter) entries
  count_first submitter [] h = refl
  count_first submitter (entry ∷ entries) h =
      sum_by-cons (λ e. cond (is_of (txs ++ more) submitter e) 1 0) entry entries
      ∙ ap (λ b. cond b 1 0 + count_by (is_of (txs ++ more) submitter) entries) (of_first submitter entry (All-head (IsOf txs) entry entries h))
      ∙ ap (λ n. cond (is_of txs submitter entry) 1 0 + n) (count_first submitter entries (All-tail (IsOf txs) entry entries h))
      ∙ sym (sum_by-cons (λ e. cond (is_of txs submitter e) 1 0) entry entries)

  line_first : (earlier : List Entry) (entry : Entry) → All (IsOf txs) earlier → IsOf txs entry → entry_line typed (txs ++ more) earlier entry ≡ entry_line typed txs earlier entry
  line_first earlier entry h k =
      ap (λ o. option_map_or (λ (tx : Tx). line_text typed (length earlier + 1) (count_by (is_of (txs ++ more) tx.submitter) earlier + 1) tx entry.receipt) o []) (tx_first entry k)
      ∙ ap (λ (count : ℕ → ℕ). option_map_or (λ (tx : Tx). line_text typed (length earlier + 1) (count tx.submitter + 1) tx entry.receipt) (tx_of txs entry) []) (λ i submitter. count_first submitter earlier h i)

  lines_first : (earlier later : List Entry) → All (IsOf txs) earlier → All (IsOf txs) later → lines_after typed (txs ++ more) earlier later ≡ lines_after typed txs earlier later
  lines_first earlier [] h k = refl
  lines_first earlier (entry ∷ later) h k =
      ap (λ line. line ++ lines_after typed (txs ++ more) (earlier ++ entry ∷ []) later) (line_first earlier entry h (All-head (IsOf txs) entry later k))
      ∙ ap (λ lines. entry_line typed txs earlier entry ++ lines)
      (lines_first (earlier ++ entry ∷ []) later (All-append (IsOf txs) earlier (entry ∷ []) h (All-cons (IsOf txs) entry [] (All-head (IsOf txs) entry later k) (All-nil (IsOf txs)))) (All-tail (IsOf txs) entry later k))

  -- what was counted of the earlier transactions' entries stays right
  pub counts_first : (entries : List Entry) (numbers : BTreeMap ℕ ℕ) → All (IsOf txs) entries → CountsEntries txs entries numbers → CountsEntries (txs ++ more) entries numbers
  counts_first entries numbers h k = record { counts = λ q. k.counts q ∙ sym (count_first q entries h) }

-- the lines of entries and then of more entries
lines_append : (typed : Typed) (txs : List Tx) (earlier some later : List Entry) → lines_after typed txs earlier (some ++ later) ≡ lines_after typed txs earlier some ++ lines_after typed txs (earlier ++ some) later
lines_append typed txs earlier [] later = ap (λ es. lines_after typed txs es later) (sym (append-nil earlier))
lines_append typed txs earlier (entry ∷ some) later =
    ap (λ lines. entry_line typed txs earlier entry ++ lines) (lines_append typed txs (earlier ++ entry ∷ []) some later
    ∙ ap (λ es. lines_after typed txs (earlier ++ entry ∷ []) some ++ lines_after typed txs es later) (append_assoc earlier (entry ∷ []) some))
    ∙ sym (append_assoc (entry_line typed txs earlier entry) (lines_after typed txs (earlier ++ entry ∷ []) some) (lines_after typed txs (earlier ++ entry ∷ some) later))

-- ---- the entries of transactions in their order

-- the entries of transactions that run from a store on, with rows from a first one on
abbrev pub entries_from : ℕ → Typed → Store → List Tx → List Entry
entries_from row typed store txs = entries_of (range_with_len row (length txs)) (serial_from typed store txs).receipts

entries_first : (row : ℕ) (typed : Typed) (store : Store) (tx : Tx) (txs : List Tx) → entries_from row typed store (tx ∷ txs) ≡ record { row = row; receipt = receipt_on typed store tx } ∷ entries_from (row + 1) typed (next_store typed store tx) txs
unfolding serial_from
entries_first row typed store tx txs = refl

store_first : (typed : Typed) (store : Store) (tx : Tx) (txs : List Tx) → (serial_from typed store (tx ∷ txs)).store ≡ (serial_from typed (next_store typed store tx) txs).store
unfolding serial_from
store_first typed store tx txs = refl

none_from : (row : ℕ) (typed : Typed) (store : Store) (txs : List Tx) → txs ≡ [] → entries_from row typed store txs ≡ []
none_from row typed store txs is = ap (entries_from row typed store) is

store_none : (typed : Typed) (store : Store) → (serial_from typed store []).store ≡ store
unfolding serial_from
store_none typed store = refl

entries_both : (row : ℕ) (typed : Typed) (store : Store) (txs more : List Tx) → entries_from row typed store (txs ++ more) ≡ entries_from row typed store txs ++ entries_from (row + length txs) typed (serial_from typed store txs).store more
entries_both row typed store [] more =
    ap (λ n. entries_from n typed store more) (plus_none row)
    ∙ ap (λ s. entries_from (row + 0) typed s more) (sym (store_none typed store))
  where
    plus_none : (n : ℕ) → n ≡ n + 0
    plus_none n = omega arith
entries_both row typed store (tx ∷ txs) more =
    entries_first row typed store tx (txs ++ more)
    ∙ ap (λ es. record { row = row; receipt = receipt_on typed store tx } ∷ es) (entries_both (row + 1) typed (next_store typed store tx) txs more)
    ∙ ap (λ n. record { row = row; receipt = receipt_on typed store tx } ∷ (entries_from (row + 1) typed (next_store typed store tx) txs ++ entries_from n typed (serial_from typed (next_store typed store tx) txs).store more)) (plus_one row (length txs))
    ∙ ap (λ s. record { row = row; receipt = receipt_on typed store tx } ∷ (entries_from (row + 1) typed (next_store typed store tx) txs ++ entries_from (row + length (tx ∷ txs)) typed s more)) (sym (store_first typed store tx txs))
    ∙ ap (λ es. es ++ entries_from (row + length (tx ∷ txs)) typed (serial_from typed store (tx ∷ txs)).store more) (sym (entries_first row typed store tx txs))
  where
    plus_one : (n m : ℕ) → n + 1 + m ≡ n + suc m
    plus_one n m = omega arith

from_none : (n : ℕ) → 0 + n ≡ n
from_none n = omega arith

-- rows from a first one on, below another
rows_below : (row most : ℕ) (typed : Typed) (store : Store) (txs : List Tx) → row + length txs ≤ most → All (λ (e : Entry). e.row < most) (entries_from row typed store txs)
unfolding serial_from
rows_below row most typed store [] h = All-nil (λ (e : Entry). e.row < most)
rows_below row most typed store (tx ∷ txs) h =
    All-cons (λ (e : Entry). e.row < most) (record { row = row; receipt = receipt_on typed store tx }) (entries_from (row + 1) typed (next_store typed store tx) txs) (omega arith)
    (rows_below (row + 1) most typed (next_store typed store tx) txs (omega arith))

pub rows_known : (typed : Typed) (txs : List Tx) → All (IsOf txs) (entries_in_order typed txs)
rows_known typed txs = rows_below 0 (length txs) typed (genesis typed) txs (omega arith)

count_from : (row : ℕ) (typed : Typed) (store : Store) (txs : List Tx) → length (entries_from row typed store txs) ≡ length txs
unfolding serial_from
count_from row typed store [] = refl
count_from row typed store (tx ∷ txs) = ap suc (count_from (row + 1) typed (next_store typed store tx) txs)

-- one entry for each
pub one_each : (typed : Typed) (txs : List Tx) → length (entries_in_order typed txs) ≡ length txs
one_each typed txs = count_from 0 typed (genesis typed) txs

take_first : {A : Type 0} (xs ys : List A) → take (length xs) (xs ++ ys) ≡ xs
take_first [] ys = refl
take_first (x ∷ xs) ys = ap (λ l. x ∷ l) (take_first xs ys)

drop_first : {A : Type 0} (xs ys : List A) → drop (length xs) (xs ++ ys) ≡ ys
drop_first [] ys = refl
drop_first (x ∷ xs) ys = drop_first xs ys

module _ (typed : Typed) (txs more : List Tx) where
  -- the entries of the later transactions
  abbrev later : List Entry
  later = entries_from (length txs) typed (serial typed txs).store more

  in_order_both : entries_in_order typed (txs ++ more) ≡ entries_in_order typed txs ++ later
  in_order_both = entries_both 0 typed (genesis typed) txs more ∙ ap (λ n. entries_in_order typed txs ++ entries_from n typed (serial typed txs).store more) (from_none (length txs))

  -- the first entries are those of the earlier transactions
  pub first_entries : take (length txs) (entries_in_order typed (txs ++ more)) ≡ entries_in_order typed txs
  first_entries =
      ap (take (length txs)) in_order_both
      ∙ ap (λ n. take n (entries_in_order typed txs ++ later)) (sym (one_each typed txs))
      ∙ take_first (entries_in_order typed txs) later

  later_entries : drop (length txs) (entries_in_order typed (txs ++ more)) ≡ later
  later_entries =
      ap (drop (length txs)) in_order_both
      ∙ ap (λ n. drop n (entries_in_order typed txs ++ later)) (sym (one_each typed txs))
      ∙ drop_first (entries_in_order typed txs) later

  -- the first part of a journal grows by the further receipts
  pub text_grows : receipts_text typed (txs ++ more) ≡ receipts_text typed txs ++ further_text typed txs more
  text_grows =
      let all = txs ++ more in
      let some = entries_in_order typed txs in
      ap (λ es. head_text 2 ++ lines_after typed all [] es) in_order_both
      ∙ ap (λ lines. head_text 2 ++ lines) (lines_append typed all [] some later)
      ∙ ap (λ lines. head_text 2 ++ (lines ++ lines_after typed all some later)) (lines_first typed txs more [] some (All-nil (IsOf txs)) (rows_known typed txs))
      ∙ sym (append_assoc (head_text 2) (lines_after typed txs [] some) (lines_after typed all some later))
      ∙ ap (λ es. receipts_text typed txs ++ lines_after typed all es later) (sym first_entries)
      ∙ ap (λ es. receipts_text typed txs ++ lines_after typed all (take (length txs) (entries_in_order typed all)) es) (sym later_entries)

  -- the numbers that were counted before the further entries
  pub counted_before : (numbers : BTreeMap ℕ ℕ) → CountsEntries txs (entries_in_order typed txs) numbers → CountsEntries (txs ++ more) (take (length txs) (entries_in_order typed (txs ++ more))) numbers
  counted_before numbers h = subst (λ es. CountsEntries (txs ++ more) es numbers) (sym first_entries) (counts_first typed txs more (entries_in_order typed txs) numbers (rows_known typed txs) h)

-- ---- the whole text

-- the journal in the order of the stream is its first part, and what stands behind the receipts
pub whole_text : AlongPlaces → (typed : Typed) (said : StreamSaid) → text_along 2 typed said.txs (places said.txs) said.stop ≡ receipts_text typed said.txs ++ rest_text typed said
whole_text all typed said =
    ap (λ txs. journal_text 2 typed said.txs (entries_of (places said.txs) (serial typed txs).receipts) said.stop (serial typed txs).store) (all said.txs)
    ∙ sym (append_assoc (head_text 2) (text_of_entries typed said.txs (entries_in_order typed said.txs) 0) (rest_text typed said))
