-- What it is for a draft, a run kept from a snapshot, to stand for the run of its transaction.
use Rattle.std.specs.Prelude.{◌≡◌, All}
use Rattle.ecf_lang.specs.declared.run.Run.{Run}
use Rattle.ecf_lang.specs.declared.typed.Typed.{Typed}
use Rattle.ecf_lang.specs.declared.tx.Tx.{Tx}
use Rattle.ecf_lang.specs.Store.{Store, Cells, IsStore, read, with_writes}
use Rattle.ecf_lang.specs.Meaning.{run}

-- the store has at each of these cells what was read there
abbrev pub AgreesWith : Cells → Store → Type 0
AgreesWith reads store = All (λ pair. read store pair.0 ≡ pair.1) reads

-- the run on a store is the kept one, and ends in the store with the kept writes
pub record IsRunOn (typed : Typed) (tx : Tx) (kept : Run) (store : Store) : Type 0 where
  pub outcome : (run typed store tx).outcome ≡ kept.outcome
  pub fuel : (run typed store tx).fuel ≡ kept.fuel
  pub steps : (run typed store tx).steps ≡ kept.steps
  pub invocations : (run typed store tx).invocations ≡ kept.invocations
  pub ends : (run typed store tx).store ≡ with_writes store kept.writes

-- on every store that agrees with its reads, the run is the kept one
abbrev pub StandsFor : Typed → Tx → Run → Type 0
StandsFor typed tx kept = (store : Store) → IsStore store → AgreesWith kept.reads store → IsRunOn typed tx kept store
