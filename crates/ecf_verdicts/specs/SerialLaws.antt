-- What receipts, serial runs and journals promise.
use Rattle.std.specs.Prelude.{◌≡◌, ◌↔◌, ℕ, List, [], ◌∷◌, ◌++◌, length, take, All, ⊤}
use Rattle.ecf_lang.specs.declared.receipt.Receipt.{Receipt}
use Rattle.ecf_lang.specs.declared.receipt.Receipt.TheVariants as receipt
use Rattle.ecf_lang.specs.declared.run.Outcome.{Outcome}
use Rattle.ecf_lang.specs.declared.run.Outcome.TheVariants as outcome
use Rattle.ecf_lang.specs.declared.tx.Tx.{Tx}
use Rattle.ecf_lang.specs.declared.typed.Typed.{Typed}
use Rattle.ecf_lang.specs.Genesis.{genesis}
use Rattle.ecf_lang.specs.Meaning.{run}
use Rattle.ecf_lang.specs.Store.{Store}
use Rattle.ecf_verdicts.specs.Free.{Free}
use Rattle.ecf_verdicts.specs.Journals.{IsLegal, IsLegalSoFar, along, places}
use Rattle.ecf_verdicts.specs.Receipts.{next_store, receipt_on, serial, serial_from, store_after}
use Rattle.ecf_verdicts.specs.Traces.{trace}

-- the run answered
abbrev pub IsAnswer : Outcome → Type 0
IsAnswer (outcome.Answer value) = ⊤
IsAnswer (outcome.Reverted cause) = ⊥
IsAnswer outcome.OutOfFuel = ⊥

-- the receipt is a veto
abbrev pub IsVetoed : Receipt → Type 0
IsVetoed (receipt.Committed answer fuel orders) = ⊥
IsVetoed (receipt.Reverted cause fuel) = ⊥
IsVetoed (receipt.OutOfFuel fuel) = ⊥
IsVetoed (receipt.Vetoed object at cycle fuel) = ⊤
IsVetoed (receipt.Barred watch fuel) = ⊥

-- A transaction is vetoed exactly where its run answers and, for some object, no swaps of neighbouring steps that
-- don't conflict, of different invocations, bring the steps of each invocation together.
abbrev pub VetoedWhereNotFree : Type 0
VetoedWhereNotFree = (typed : Typed) (store : Store) (tx : Tx) →
    IsVetoed (receipt_on typed store tx) ↔ IsAnswer (run typed store tx).outcome × ((o : ℕ) × (Free (trace (run typed store tx).steps o) → ⊥))

-- the receipt is of a committed transaction
abbrev pub IsCommitted : Receipt → Type 0
IsCommitted (receipt.Committed answer fuel orders) = ⊤
IsCommitted (receipt.Reverted cause fuel) = ⊥
IsCommitted (receipt.OutOfFuel fuel) = ⊥
IsCommitted (receipt.Vetoed object at cycle fuel) = ⊥
IsCommitted (receipt.Barred watch fuel) = ⊥

-- the receipt says that a watch voted the transaction down
abbrev pub IsBarred : Receipt → Type 0
IsBarred (receipt.Committed answer fuel orders) = ⊥
IsBarred (receipt.Reverted cause fuel) = ⊥
IsBarred (receipt.OutOfFuel fuel) = ⊥
IsBarred (receipt.Vetoed object at cycle fuel) = ⊥
IsBarred (receipt.Barred watch fuel) = ⊤

-- a barred transaction isn't committed and isn't vetoed, and leaves the store as it was
abbrev pub BarredChangesNothing : Type 0
BarredChangesNothing = (r : Receipt) → IsBarred r →
    (IsCommitted r → ⊥) × (IsVetoed r → ⊥) × ((before after : Store) → store_after r before after ≡ before)

-- no watch takes part in a serial run: none of its receipts is barred
abbrev pub SerialNeverBars : Type 0
SerialNeverBars = (typed : Typed) (store : Store) (txs : List Tx) → All (λ r. IsBarred r → ⊥) (serial_from typed store txs).receipts

-- a committed transaction leaves the store of its run's end
abbrev pub CommitKeepsEnd : Type 0
CommitKeepsEnd = (typed : Typed) (store : Store) (tx : Tx) →
    IsCommitted (receipt_on typed store tx) → next_store typed store tx ≡ (run typed store tx).store

-- any other transaction leaves the store as it was
abbrev pub OnlyCommitChanges : Type 0
OnlyCommitChanges = (typed : Typed) (store : Store) (tx : Tx) → (IsCommitted (receipt_on typed store tx) → ⊥) → next_store typed store tx ≡ store

-- a transaction is committed exactly where its run answers and the trace of each object is free
abbrev pub CommittedWhereFree : Type 0
CommittedWhereFree = (typed : Typed) (store : Store) (tx : Tx) →
    IsCommitted (receipt_on typed store tx) ↔ IsAnswer (run typed store tx).outcome × ((o : ℕ) → Free (trace (run typed store tx).steps o))

-- a serial run begins at the contract's initial values
abbrev pub SerialBegins : Type 0
SerialBegins = (typed : Typed) → serial typed [] ≡ record { receipts = []; store = genesis typed }

-- one more transaction adds its receipt on the last store, and leaves its next
abbrev pub SerialAddsOne : Type 0
SerialAddsOne = (typed : Typed) (txs : List Tx) (tx : Tx) →
    let first = serial typed txs in
    serial typed (txs ++ tx ∷ []) ≡ record { receipts = first.receipts ++ receipt_on typed first.store tx ∷ []; store = next_store typed first.store tx }

-- further transactions go on from the store that the earlier ones leave
abbrev pub SerialGoesOn : Type 0
SerialGoesOn = (typed : Typed) (store : Store) (txs more : List Tx) →
    let first = serial_from typed store txs in
    let second = serial_from typed first.store more in
    serial_from typed store (txs ++ more) ≡ record { receipts = first.receipts ++ second.receipts; store = second.store }

-- one receipt a transaction
abbrev pub ReceiptEach : Type 0
ReceiptEach = (typed : Typed) (store : Store) (txs : List Tx) → length (serial_from typed store txs).receipts ≡ length txs

-- each first part of a legal journal is legal so far
abbrev pub FirstPartsLegal : Type 0
FirstPartsLegal = (txs : List Tx) (journal : List ℕ) → IsLegal txs journal → (n : ℕ) → IsLegalSoFar txs (take n journal)

-- a journal so far that has as many places as there are transactions is a legal one
abbrev pub LegalWhenWhole : Type 0
LegalWhenWhole = (txs : List Tx) (journal : List ℕ) → IsLegalSoFar txs journal → length journal ≡ length txs → IsLegal txs journal

-- along all places in order stand the transactions themselves
abbrev pub AlongPlaces : Type 0
AlongPlaces = (txs : List Tx) → along txs (places txs) ≡ txs

-- along a journal stands one transaction for each place
abbrev pub AlongEach : Type 0
AlongEach = (txs : List Tx) (journal : List ℕ) → IsLegalSoFar txs journal → length (along txs journal) ≡ length journal
