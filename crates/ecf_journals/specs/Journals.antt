-- What may be written for transactions: the journal of running them one after the other, in a legal order.
use Rattle.std.specs.Prelude.{◌≡◌, ◌↔◌, ℕ, List, [], ◌∷◌, Option}
use Rattle.ecf_lang.specs.declared.receipt.Entry.{Entry}
use Rattle.ecf_lang.specs.declared.receipt.Receipt.{Receipt}
use Rattle.ecf_lang.specs.declared.receipt.Stop.{Stop}
use Rattle.ecf_lang.specs.declared.typed.Typed.{Typed}
use Rattle.ecf_lang.specs.declared.tx.Tx.{Tx}
use Rattle.ecf_lang.specs.Genesis.{genesis}
use Rattle.ecf_lang.specs.Meaning.{run}
use Rattle.ecf_lang.specs.Store.{Store}
use Rattle.ecf_verdicts.specs.Free.{Free}
use Rattle.ecf_verdicts.specs.Journals.{IsLegal, along}
use Rattle.ecf_verdicts.specs.Receipts.{receipt_on, next_store, Serial, serial}
use Rattle.ecf_verdicts.specs.SerialLaws.{IsAnswer, IsVetoed}
use Rattle.ecf_verdicts.specs.Traces.{trace}
use Rattle.ecf_texts.specs.Journal.{journal_text}

-- the entries of these places, with a receipt for each
abbrev pub entries_of : List ℕ → List Receipt → List Entry
entries_of [] receipts = []
entries_of (place ∷ places) [] = []
entries_of (place ∷ places) (receipt ∷ receipts) = record { row = place; receipt = receipt } ∷ entries_of places receipts

-- the text, of a version, of the journal that lists these places, from running their transactions one after the other
abbrev pub text_along : ℕ → Typed → List Tx → List ℕ → Option Stop → List ℕ
text_along version typed txs places stop =
    let result : Serial = serial typed (along txs places) in
    journal_text version typed txs (entries_of places result.receipts) stop result.store

-- each transaction, run after those before it, is vetoed exactly where its run answers and for some object no swaps of
-- neighbouring steps that don't conflict, of different invocations, bring each invocation's steps together
abbrev pub VetoesHarm : Typed → Store → List Tx → Type 0
VetoesHarm typed store [] = Unit {0}
VetoesHarm typed store (tx ∷ txs) =
    (IsVetoed (receipt_on typed store tx) ↔ IsAnswer (run typed store tx).outcome × ((o : ℕ) × (Free (trace (run typed store tx).steps o) → ⊥)))
    × VetoesHarm typed (next_store typed store tx) txs

-- the text is a journal, of this version, of these transactions: each stands once, in its submitter's order
pub record IsJournal (version : ℕ) (typed : Typed) (txs : List Tx) (stop : Option Stop) (text : List ℕ) : Type 0 where
  pub places : List ℕ
  pub legal : IsLegal txs places
  pub serial : text ≡ text_along version typed txs places stop
  pub vetoes : VetoesHarm typed (genesis typed) (along txs places)
