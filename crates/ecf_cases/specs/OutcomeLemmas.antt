-- From what a run came to, what becomes of its transaction.
use Rattle.std.proofs.Common.{◌≡◌, ℕ, List, ◌∷◌, sym, ap, ◌∙◌, subst}
use Rattle.ecf_lang.specs.declared.receipt.Order.{Order}
use Rattle.ecf_lang.specs.declared.receipt.Receipt.{Receipt}
use Rattle.ecf_lang.specs.declared.tx.Tx.{Tx}
use Rattle.ecf_lang.specs.declared.typed.Typed.{Typed}
use Rattle.ecf_lang.specs.Meaning.{run, RunResult}
use Rattle.ecf_lang.specs.Store.{Store}
use Rattle.ecf_verdicts.specs.Free.{Free, IsTogether}
use Rattle.ecf_verdicts.specs.Laws.{ApprovesFree, VetoesLeast}
use Rattle.ecf_verdicts.specs.Receipts.{receipt_of, receipt_on, store_after, next_store, Serial, serial_from}
use Rattle.ecf_verdicts.specs.Traces.{trace}
use Rattle.ecf_verdicts.specs.Verdicts.{Approved, Vetoed, verdict}
use Rattle.ecf_cases.specs.Outcomes.{IsNotTogether, SwapsBringTogether, NoSwapsBringTogether}

module _ (typed : Typed) (store : Store) (tx : Tx) (r : RunResult) (is : run typed store tx ≡ r) where
  -- the receipt is that of what the run came to
  pub receipt_from_run : receipt_on typed store tx ≡ receipt_of r.outcome r.fuel r.steps
  unfolding receipt_on
  receipt_from_run = ap (λ (q : RunResult). receipt_of q.outcome q.fuel q.steps) is

  -- and the store after it is what that receipt leaves
  pub store_from_run : next_store typed store tx ≡ store_after (receipt_of r.outcome r.fuel r.steps) store r.store
  unfolding next_store receipt_on
  store_from_run = ap (λ (q : RunResult). store_after (receipt_of q.outcome q.fuel q.steps) store q.store) is

  -- a veto of its steps says that no swaps help
  pub no_swaps_from : VetoesLeast → (object at : ℕ) (cycle : List ℕ) → verdict r.steps ≡ Vetoed object at cycle → NoSwapsBringTogether typed store tx object
  no_swaps_from law object at cycle vetoed free = (law r.steps object at cycle vetoed).0 (subst (λ (q : RunResult). Free (trace q.steps object)) is free)

  -- an approval says that some do
  pub swaps_help_from : ApprovesFree → (orders : List Order) → verdict r.steps ≡ Approved orders → (object : ℕ) → SwapsBringTogether typed store tx object
  swaps_help_from law orders approved object = subst (λ (q : RunResult). Free (trace q.steps object)) (sym is) (law r.steps orders approved object)

  pub not_together_from : (object : ℕ) → (IsTogether (trace r.steps object) → ⊥) → IsNotTogether typed store tx object
  not_together_from object apart together = apart (subst (λ (q : RunResult). IsTogether (trace q.steps object)) is together)

-- a transaction, and then the others on the store that it leaves
pub serial_step : (typed : Typed) (store : Store) (tx : Tx) (txs : List Tx) (first : Receipt) (after : Store) (rest : Serial) →
    receipt_on typed store tx ≡ first → next_store typed store tx ≡ after → serial_from typed after txs ≡ rest →
    serial_from typed store (tx ∷ txs) ≡ record { receipts = first ∷ rest.receipts; store = rest.store }
unfolding serial_from
serial_step typed store tx txs first after rest is_first is_after is_rest =
    let later : serial_from typed (next_store typed store tx) txs ≡ rest = ap (λ s. serial_from typed s txs) is_after ∙ is_rest in
    λ i. record { receipts = is_first i ∷ (later i).receipts; store = (later i).store }
