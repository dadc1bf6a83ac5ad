-- Of which invocations it is said that they do alone what they did, and what that is.
use Rattle.std.specs.Prelude.{◌≡◌, ℕ, List, map, slice_get, Some, All}
use Rattle.ecf_isolate.specs.declared.alone.AloneRun.{AloneRun}
use Rattle.ecf_lang.specs.declared.cell.Cell.{Cell}
use Rattle.ecf_lang.specs.declared.run.Invocation.{Invocation}
use Rattle.ecf_lang.specs.declared.run.Step.{Step}
use Rattle.ecf_lang.specs.declared.tx.Tx.{Tx}
use Rattle.ecf_lang.specs.declared.typed.Typed.{Typed}
use Rattle.ecf_lang.specs.Meaning.{run}
use Rattle.ecf_lang.specs.Store.{Store, IsStore, read}
use Rattle.ecf_removed.specs.Contents.{AgreeOn}
use Rattle.ecf_verdicts.specs.Blocks.{block}
use Rattle.ecf_verdicts.specs.Placing.{placing}
use Rattle.ecf_verdicts.specs.Receipts.{receipt_on}
use Rattle.ecf_verdicts.specs.SerialLaws.{IsCommitted}
use Rattle.ecf_verdicts.specs.Traces.{trace}

-- invocations and an order of a transaction that is committed on a store, whose cells of the object hold what these fields hold
pub record IsOfCommitted (typed : Typed) (store : Store) (tx : Tx) (object : ℕ) (before : Store) (invocations : List Invocation) (order : List ℕ) : Type 0 where
  pub opening : IsStore store
  pub committed : IsCommitted (receipt_on typed store tx)
  pub agree : AgreeOn object (read before) (read store)
  pub all_invocations : invocations ≡ (run typed store tx).invocations
  pub named_order : order ≡ (placing (trace (run typed store tx).steps object)).order

-- the run alone has the recorded answer and the recorded steps, values included
pub record IsAsRecorded (invocations : List Invocation) (steps : List Step) (alone : AloneRun) : Type 0 where
  pub one : Invocation
  pub is : slice_get invocations alone.inv ≡ Some one
  pub answer : one.answer ≡ Some alone.answer
  pub steps_same : alone.steps ≡ block steps alone.inv

-- in the named order each does what it did in the transaction; the object's cells are then as after the transaction, and each
-- other cell as it was
pub record DoAsRecorded (typed : Typed) (store : Store) (tx : Tx) (object : ℕ) (before : Store) (runs : List AloneRun) (after : Store) : Type 0 where
  pub in_order : map (λ (r : AloneRun). r.inv) runs ≡ (placing (trace (run typed store tx).steps object)).order
  pub recorded : All (IsAsRecorded (run typed store tx).invocations (run typed store tx).steps) runs
  pub inside : (cell : Cell) → cell.object ≡ object → read after cell ≡ read (run typed store tx).store cell
  pub outside : (cell : Cell) → (cell.object ≡ object → ⊥) → read after cell ≡ read before cell
