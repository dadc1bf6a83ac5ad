-- What it is for a draft, and for what was judged of it, to be drafted under a contract: relations of plain values.
use Rattle.std.specs.Prelude.{◌≡◌, []}
use Rattle.ecf_lang.specs.declared.receipt.Receipt.{Receipt}
use Rattle.ecf_lang.specs.declared.receipt.Receipt.TheVariants as receipt
use Rattle.ecf_lang.specs.declared.run.Run.{Run}
use Rattle.ecf_lang.specs.declared.tx.Tx.{Tx}
use Rattle.ecf_lang.specs.declared.typed.Typed.{Typed}
use Rattle.ecf_lang.specs.Draft.{AgreesWith, StandsFor}
use Rattle.ecf_lang.specs.Fits.{Fits}
use Rattle.ecf_lang.specs.Meaning.{run, kept_run}
use Rattle.ecf_lang.specs.Store.{Store, Cells, IsStore, with_writes}
use Rattle.ecf_verdicts.specs.Receipts.{receipt_of, receipt_on, next_store}
use Rattle.ecf_verdicts.specs.SerialLaws.{IsCommitted}

-- on a store, the run of the transaction reads and writes what the kept one did
pub record HasReadsAndWrites (typed : Typed) (tx : Tx) (kept : Run) (store : Store) : Type 0 where
  pub reads : (run typed store tx).reads ≡ kept.reads
  pub writes : (run typed store tx).writes ≡ kept.writes

-- A kept run is drafted under a contract: its transaction fits, and on every store that agrees with its reads it is the
-- transaction's run, with the same reads and writes.
pub record IsDrafted (typed : Typed) (tx : Tx) (kept : Run) : Type 0 where
  pub fits : Fits typed tx
  pub stands : StandsFor typed tx kept
  pub same : (store : Store) → IsStore store → AgreesWith kept.reads store → HasReadsAndWrites typed tx kept store

-- what was judged of a transaction, with what its run read and wrote
pub record Judgement : Type 0 where
  pub tx : Tx
  pub receipt : Receipt
  pub reads : Cells
  pub writes : Cells

-- a judgement is right on a store: its receipt is the transaction's there, its writes lead to the next store, and where it
-- is committed they are those of the run
pub record IsRightOn (typed : Typed) (j : Judgement) (store : Store) : Type 0 where
  pub receipt : receipt_on typed store j.tx ≡ j.receipt
  pub leaves : next_store typed store j.tx ≡ with_writes store j.writes
  pub writes : IsCommitted j.receipt → (run typed store j.tx).writes ≡ j.writes

-- a judgement is drafted under a contract: its transaction fits, and it is right on every store that agrees with its reads
pub record IsJudged (typed : Typed) (j : Judgement) : Type 0 where
  pub fits : Fits typed j.tx
  pub right : (store : Store) → IsStore store → AgreesWith j.reads store → IsRightOn typed j store

-- the writes of a run that is committed; of another, none
abbrev pub committed_writes : Receipt → Cells → Cells
committed_writes (receipt.Committed answer fuel orders) writes = writes
committed_writes (receipt.Reverted cause fuel) writes = []
committed_writes (receipt.OutOfFuel fuel) writes = []
committed_writes (receipt.Vetoed object at cycle fuel) writes = []
committed_writes (receipt.Barred watch fuel) writes = []

-- what is judged of a kept run
abbrev pub judgement_of : Tx → Run → Judgement
judgement_of tx kept =
    let receipt = receipt_of kept.outcome kept.fuel kept.steps in
    record { tx = tx; receipt = receipt; reads = kept.reads; writes = committed_writes receipt kept.writes }

-- the run of a transaction that fits, kept, is drafted under the contract
abbrev pub RunIsDrafted : Type 0
RunIsDrafted = (typed : Typed) (store : Store) (tx : Tx) → Fits typed tx → IsDrafted typed tx (kept_run (run typed store tx))

-- what is judged of a draft is drafted under each contract that the draft was
abbrev pub DraftIsJudged : Type 0
DraftIsJudged = (typed : Typed) (tx : Tx) (kept : Run) → IsDrafted typed tx kept → IsJudged typed (judgement_of tx kept)
