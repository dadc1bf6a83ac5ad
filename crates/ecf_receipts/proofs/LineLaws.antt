-- How far a loop over entries has come.
use Rattle.std.proofs.Common.{◌≡◌, ◌==◌, ◌<◌, ◌≤◌, ◌+◌, ℕ, zero, suc, Bool, true, false, List, [], ◌∷◌, ◌++◌, Some, take, drop, get_or, length, refl, ap, sym, subst, ◌∙◌, arith, append_assoc, length-take-le}
use Rattle.std.specs.Prelude.{cond, count_by, if◌then◌else◌}
use Rattle.std.proofs.lemmas.List.Sums.{sum_by_push}
use Rattle.std.specs.BTreeMap.{BTreeMap}
use Rattle.std.specs.Option.{option_map_or}
use Rattle.ecf_lang.specs.declared.typed.Typed.{Typed}
use Rattle.ecf_lang.specs.declared.tx.Tx.{Tx}
use Rattle.ecf_lang.specs.declared.receipt.Entry.{Entry}
use Rattle.ecf_texts.specs.Entries.{line_text, tx_of, is_of, entry_line, lines_after, text_of_entries}
use Rattle.ecf_receipts.specs.Numbers.{count_of, CountsOneMore, CountsEntries}

-- the entries below a place are counted; what is written of them and what is left to write make up the whole
pub record Printed (typed : Typed) (txs : List Tx) (entries : List Entry) (from index : ℕ) (old text : List ℕ) (numbers : BTreeMap ℕ ℕ) : Type 0 where
  pub within : from ≤ index
  pub counted : CountsEntries txs (take index entries) numbers
  pub rest : text ++ text_of_entries typed txs entries index ≡ old ++ text_of_entries typed txs entries from

take_more : (entries : List Entry) (index : ℕ) (d : Entry) → index < length entries → take (suc index) entries ≡ take index entries ++ get_or entries index d ∷ []
take_more [] index d inside = absurd (omega arith)
take_more (entry ∷ entries) zero d inside = refl
take_more (entry ∷ entries) (suc index) d inside = ap (λ es. entry ∷ es) (take_more entries index d (omega arith))

drop_one : (entries : List Entry) (index : ℕ) (d : Entry) → index < length entries → drop index entries ≡ get_or entries index d ∷ drop (suc index) entries
drop_one [] index d inside = absurd (omega arith)
drop_one (entry ∷ entries) zero d inside = refl
drop_one (entry ∷ entries) (suc index) d inside = drop_one entries index d (omega arith)

if_as_cond : (test : Bool) → (let some : ℕ = if test then 1 else 0 in cond test 1 0 ≡ some)
if_as_cond true = refl
if_as_cond false = refl

count_more : (txs : List Tx) (q : ℕ) (entries : List Entry) (entry : Entry) → count_by (is_of txs q) (entries ++ entry ∷ []) ≡ count_by (is_of txs q) entries + (if is_of txs q entry then 1 else 0)
count_more txs q entries entry = sum_by_push (λ e. cond (is_of txs q e) 1 0) entries entry ∙ ap (λ n. count_by (is_of txs q) entries + n) (if_as_cond (is_of txs q entry))

module _ (typed : Typed) (txs : List Tx) (entries : List Entry) (from index : ℕ) (old text : List ℕ) (numbers : BTreeMap ℕ ℕ) (so_far : Printed typed txs entries from index old text numbers) (d : Entry) (inside : index < length entries) where
  abbrev before : List Entry
  before = take index entries

  abbrev entry : Entry
  entry = get_or entries index d

  abbrev later : ℕ → List ℕ
  later place = text_of_entries typed txs entries place

  whole : later index ≡ entry_line typed txs before entry ++ later (suc index)
  whole =
      ap (lines_after typed txs before) (drop_one entries index d inside)
      ∙ ap (λ es. entry_line typed txs before entry ++ lines_after typed txs es (drop (suc index) entries)) (sym (take_more entries index d inside))

  -- a line more
  pub line_printed : (tx : Tx) (n : ℕ) (more : List ℕ) (next : BTreeMap ℕ ℕ) → tx_of txs entry ≡ Some tx → n ≡ count_of numbers tx.submitter + 1 → CountsOneMore numbers next tx.submitter →
      more ≡ text ++ line_text typed (index + 1) n tx entry.receipt → Printed typed txs entries from (index + 1) old more next
  line_printed tx n more next of number counts is =
      let count : length before ≡ index = length-take-le index entries (omega arith) in
      let up : suc index ≡ index + 1 = omega arith in
      let line : entry_line typed txs before entry ≡ line_text typed (index + 1) n tx entry.receipt =
      ap (λ o. option_map_or (λ (tx : Tx). line_text typed (length before + 1) (count_by (is_of txs tx.submitter) before + 1) tx entry.receipt) o []) of
      ∙ ap (λ place. line_text typed (place + 1) (count_by (is_of txs tx.submitter) before + 1) tx entry.receipt) count
      ∙ ap (λ number. line_text typed (index + 1) (number + 1) tx entry.receipt) (sym (so_far.counted.counts tx.submitter))
      ∙ ap (λ number. line_text typed (index + 1) number tx entry.receipt) (sym number) in
      subst (λ place. Printed typed txs entries from place old more next) up (record {
        within = (let h : from ≤ index = so_far.within in omega (arith, h));
        counted = record {
          counts = λ q. counts.counts q
              ∙ ap (λ m. m + (if tx.submitter == q then 1 else 0)) (so_far.counted.counts q)
              ∙ ap (λ o. count_by (is_of txs q) before + (if option_map_or (λ (tx : Tx). tx.submitter == q) o false then 1 else 0)) (sym of)
              ∙ sym (count_more txs q before entry)
              ∙ ap (count_by (is_of txs q)) (sym (take_more entries index d inside));
        };
        rest = ap (λ t. t ++ later (suc index)) is
            ∙ append_assoc text (line_text typed (index + 1) n tx entry.receipt) (later (suc index))
            ∙ ap (λ l. text ++ (l ++ later (suc index))) (sym line)
            ∙ ap (λ t. text ++ t) (sym whole)
            ∙ so_far.rest;
      })
