-- How far a loop over rows has come.
use Rattle.std.proofs.Common.{◌≡◌, ◌<◌, ℕ, ◌+◌, Bool, true, false, if◌then◌else◌, List, [], ◌∷◌, ◌++◌, length, take, drop, get_or, refl, sym, ap, ◌∙◌, arith, append_assoc}
use Rattle.std.specs.Prelude.{◌==◌, count_by}
use Rattle.std.specs.BTreeMap.{BTreeMap}
use Rattle.std.proofs.lemmas.List.{take_more, drop_more}
use Rattle.std.proofs.lemmas.List.Sums.{count_by_more_no, count_by_more_yes}
use Rattle.ecf_lang.specs.declared.tx.Tx.{Tx}
use Rattle.ecf_schedule_text.specs.declared.names.RowName.{RowName}
use Rattle.ecf_schedule_text.specs.Names.{is_from, name_behind, names_behind, row_names}
use Rattle.ecf_schedule_text.specs.Counts.{count_of, CountsOneMore, CountsRows}

-- the rows below a place are counted; their names and those of the others are the whole
pub record Named (txs : List Tx) (index : ℕ) (names : List RowName) (numbers : BTreeMap ℕ ℕ) : Type 0 where
  pub counted : CountsRows (take index txs) numbers
  pub rest : names ++ names_behind (take index txs) (drop index txs) ≡ row_names txs

one_more : (txs : List Tx) (i q : ℕ) (tx : Tx) → i < length txs → get_or txs i tx ≡ tx → count_by (is_from q) (take (i + 1) txs) ≡ count_by (is_from q) (take i txs) + (if tx.submitter == q then 1 else 0)
one_more txs i q tx h is = by (tx.submitter == q) refl where
  by : (b : Bool) → (tx.submitter == q) ≡ b → count_by (is_from q) (take (i + 1) txs) ≡ count_by (is_from q) (take i txs) + (if b then 1 else 0)
  by true e = count_by_more_yes (is_from q) txs i tx h (ap (is_from q) is ∙ e)
  by false e = let same = count_by_more_no (is_from q) txs i tx h (ap (is_from q) is ∙ e) in omega (arith, same)

pub named_more : (txs : List Tx) (i : ℕ) (names : List RowName) (old new : BTreeMap ℕ ℕ) (tx : Tx) (n : ℕ) →
    i < length txs → get_or txs i tx ≡ tx → n ≡ count_of old tx.submitter + 1 → CountsOneMore old new tx.submitter → Named txs i names old →
    Named txs (i + 1) (names ++ record { submitter = tx.submitter; number = n } ∷ []) new
named_more txs i names old new tx n h is number counts named =
    let earlier = take i txs in
    let later = drop (i + 1) txs in
    let taken : take (i + 1) txs ≡ earlier ++ tx ∷ [] = take_more txs i tx h ∙ ap (λ t. earlier ++ t ∷ []) is in
    let left : drop i txs ≡ tx ∷ later = drop_more txs i tx h ∙ ap (λ t. t ∷ later) is in
    let name : RowName = record { submitter = tx.submitter; number = n } in
    let same : name ≡ name_behind earlier tx = ap (λ k. record { submitter = tx.submitter; number = k }) (number ∙ ap (λ k. k + 1) (named.counted.counts tx.submitter)) in
    record {
      counted = record { counts = λ q. counts.counts q ∙ ap (λ k. k + (if tx.submitter == q then 1 else 0)) (named.counted.counts q) ∙ sym (one_more txs i q tx h is) };
      rest =
          append_assoc names (name ∷ []) (names_behind (take (i + 1) txs) later)
          ∙ ap (λ a. names ++ (name ∷ names_behind a later)) taken
          ∙ ap (λ m. names ++ (m ∷ names_behind (earlier ++ tx ∷ []) later)) same
          ∙ sym (ap (λ l. names ++ names_behind earlier l) left)
          ∙ named.rest;
    }
