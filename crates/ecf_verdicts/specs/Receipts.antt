-- What becomes of a transaction, and of transactions one after the other.
use Rattle.std.specs.Prelude.{ℕ, List, [], ◌∷◌}
use Rattle.ecf_lang.specs.declared.receipt.Receipt.{Receipt}
use Rattle.ecf_lang.specs.declared.receipt.Receipt.TheVariants as receipt
use Rattle.ecf_lang.specs.declared.run.Outcome.{Outcome}
use Rattle.ecf_lang.specs.declared.run.Outcome.TheVariants as outcome
use Rattle.ecf_lang.specs.declared.run.Step.{Step}
use Rattle.ecf_lang.specs.declared.tx.Tx.{Tx}
use Rattle.ecf_lang.specs.declared.typed.Typed.{Typed}
use Rattle.ecf_lang.specs.Genesis.{genesis}
use Rattle.ecf_lang.specs.Meaning.{run}
use Rattle.ecf_lang.specs.Store.{Store}
use Rattle.ecf_verdicts.specs.Verdicts.{Verdict, Approved, Vetoed, verdict}

-- the receipt of a run that answered: committed with its orders, or vetoed
abbrev pub receipt_of_answer : ℕ → ℕ → Verdict → Receipt
receipt_of_answer value fuel (Approved orders) = receipt.Committed value fuel orders
receipt_of_answer value fuel (Vetoed object at cycle) = receipt.Vetoed object at cycle fuel

-- the receipt of a run by its outcome, its fuel and its steps; only a run that answered is judged
abbrev pub receipt_of : Outcome → ℕ → List Step → Receipt
receipt_of (outcome.Answer value) fuel steps = receipt_of_answer value fuel (verdict steps)
receipt_of (outcome.Reverted cause) fuel steps = receipt.Reverted cause fuel
receipt_of outcome.OutOfFuel fuel steps = receipt.OutOfFuel fuel

-- the receipt of a transaction on a store
unfoldable pub receipt_on : Typed → Store → Tx → Receipt
receipt_on typed store tx = let result = run typed store tx in receipt_of result.outcome result.fuel result.steps

-- the store that a receipt leaves: only a committed one changes it
abbrev pub store_after : Receipt → Store → Store → Store
store_after (receipt.Committed answer fuel orders) before after = after
store_after (receipt.Reverted cause fuel) before after = before
store_after (receipt.OutOfFuel fuel) before after = before
store_after (receipt.Vetoed object at cycle fuel) before after = before
store_after (receipt.Barred watch fuel) before after = before

-- the store after a transaction
unfoldable pub next_store : Typed → Store → Tx → Store
next_store typed store tx = store_after (receipt_on typed store tx) store (run typed store tx).store

-- the receipts of transactions in their order, and the last store
pub record Serial : Type 0 where
  pub receipts : List Receipt
  pub store : Store

-- transactions one after the other, from a store
unfoldable pub serial_from : Typed → Store → List Tx → Serial
serial_from typed store [] = record { receipts = []; store = store }
serial_from typed store (tx ∷ txs) =
    let later = serial_from typed (next_store typed store tx) txs in
    record { receipts = receipt_on typed store tx ∷ later.receipts; store = later.store }

-- transactions one after the other, from the initial values of the contract
abbrev pub serial : Typed → List Tx → Serial
serial typed txs = serial_from typed (genesis typed) txs
