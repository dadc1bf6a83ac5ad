-- The order of the stream is a legal journal.
use Rattle.std.proofs.Common.{◌≡◌, ◌<◌, ◌≤◌, ◌+◌, ℕ, zero, suc, List, [], ◌∷◌, take, length, refl, ap, sym, arith}
use Rattle.std.specs.Prelude.{All}
use Rattle.std.specs.List.{range_with_len}
use Rattle.std.proofs.lemmas.List.Elements.{All-nil, All-cons}
use Rattle.std.proofs.lemmas.List.FromFn.{length-range_with_len}
use Rattle.ecf_journals.specs.Journals.{VetoesHarm}
use Rattle.ecf_lang.specs.declared.tx.Tx.{Tx}
use Rattle.ecf_lang.specs.declared.typed.Typed.{Typed}
use Rattle.ecf_lang.specs.Genesis.{genesis}
use Rattle.ecf_lang.specs.Store.{Store}
use Rattle.ecf_verdicts.specs.Journals.{IsLegal, along, of_submitter, places}
use Rattle.ecf_verdicts.specs.Receipts.{next_store}
use Rattle.ecf_verdicts.specs.SerialLaws.{LegalWhenWhole, VetoedWhereNotFree}
use Rattle.ecf_host.specs.Due.{HasJournal}

take_all : {A : Type 0} (xs : List A) → take (length xs) xs ≡ xs
take_all [] = refl
take_all (x ∷ xs) = ap (λ l. x ∷ l) (take_all xs)

range_below : (first n most : ℕ) → first + n ≤ most → All (λ p. p < most) (range_with_len first n)
range_below first zero most h = All-nil (λ p. p < most)
range_below first (suc n) most h = All-cons (λ p. p < most) first (range_with_len (first + 1) n) (omega arith) (range_below (first + 1) n most (omega arith))

-- the order of the stream is a legal one
in_order_legal : LegalWhenWhole → (txs : List Tx) → IsLegal txs (places txs)
in_order_legal whole txs = whole txs (places txs)
    (record { known = range_below 0 (length txs) (length txs) (omega arith); first_ones = λ submitter. sym (take_all (of_submitter txs submitter (places txs))) })
    (length-range_with_len 0 (length txs))

vetoes_harm : VetoedWhereNotFree → (typed : Typed) (store : Store) (txs : List Tx) → VetoesHarm typed store txs
vetoes_harm vetoed typed store [] = tt
vetoes_harm vetoed typed store (tx ∷ txs) = (vetoed typed store tx, vetoes_harm vetoed typed (next_store typed store tx) txs)

pub has_journal : LegalWhenWhole → VetoedWhereNotFree → HasJournal
has_journal whole vetoed typed said = record {
  in_order = refl;
  journal = record {
    places = places said.txs;
    legal = in_order_legal whole said.txs;
    serial = refl;
    vetoes = vetoes_harm vetoed typed (genesis typed) (along said.txs (places said.txs));
  };
}
