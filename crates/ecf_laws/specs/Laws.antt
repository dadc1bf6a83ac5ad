-- What the meaning of a transaction promises.
use Rattle.std.specs.Prelude.{ℕ, ◌≡◌, ◌≢◌, ◌≤◌, ◌<◌, ◌*◌, List, length, [], All, AllPairs, false, slice_get}
use Rattle.std.specs.List.{sum_by}
use Rattle.std.specs.Option.{IsSomeAnd}
use Rattle.std.specs.Map.{keys_of}
use Rattle.ecf_lang.specs.declared.costs.TheConstants.{READ}
use Rattle.ecf_lang.specs.declared.run.Step.{Step}
use Rattle.ecf_lang.specs.declared.run.Invocation.{Invocation}
use Rattle.ecf_lang.specs.declared.run.Outcome.TheVariants.{Answer, OutOfFuel}
use Rattle.ecf_lang.specs.declared.typed.Typed.{Typed}
use Rattle.ecf_lang.specs.declared.typed.TypedExpr.{TypedExpr}
use Rattle.ecf_lang.specs.declared.typed.TypedBlock.{TypedBlock}
use Rattle.ecf_lang.specs.declared.tx.Tx.{Tx}
use Rattle.ecf_lang.specs.Store.{Store, IsRising, IsStore, with_writes}
use Rattle.ecf_lang.specs.Draft.{AgreesWith, StandsFor}
use Rattle.ecf_lang.specs.Part.{State}
use Rattle.ecf_lang.specs.Meaning.{Frame, Action, value_of, turns, run, kept_run}
use Rattle.ecf_laws.specs.Parts.{NeverRaisesFuel, NoPartRaisesFuel, frame_in, loop_of}
use Rattle.ecf_laws.specs.Replay.{AreSeen, after_steps}

-- the fuel charged in these invocations
abbrev pub total_charge : List Invocation → ℕ
total_charge invocations = sum_by (λ one. one.own_fuel) invocations

-- the step is of one of these invocations, and that wasn't undone
abbrev pub IsOfStandingInvocation : List Invocation → Step → Type 0
IsOfStandingInvocation invocations step = IsSomeAnd (slice_get invocations step.inv) (λ one. one.undone ≡ false)

-- a run that doesn't answer leaves the store
abbrev pub UnansweredLeavesStore : Type 0
UnansweredLeavesStore = (typed : Typed) (store : Store) (tx : Tx) →
    ((value : ℕ) → (run typed store tx).outcome ≢ Answer value) → (run typed store tx).store ≡ store

-- a run that doesn't answer writes nothing
abbrev pub UnansweredWritesNothing : Type 0
UnansweredWritesNothing = (typed : Typed) (store : Store) (tx : Tx) →
    ((value : ℕ) → (run typed store tx).outcome ≢ Answer value) → (run typed store tx).writes ≡ []

-- every run ends in the store with its writes
abbrev pub EndsWithWrites : Type 0
EndsWithWrites = (typed : Typed) (store : Store) (tx : Tx) → (run typed store tx).store ≡ with_writes store (run typed store tx).writes

-- a run uses at most its limit of fuel
abbrev pub FuelWithinLimit : Type 0
FuelWithinLimit = (typed : Typed) (store : Store) (tx : Tx) → (run typed store tx).fuel ≤ tx.fuel

-- a run that runs out of fuel used its whole limit
abbrev pub OutOfFuelUsesAll : Type 0
OutOfFuelUsesAll = (typed : Typed) (store : Store) (tx : Tx) → (run typed store tx).outcome ≡ OutOfFuel → (run typed store tx).fuel ≡ tx.fuel

-- each step of a run was charged as a read at least
abbrev pub StepsAreCharged : Type 0
StepsAreCharged = (typed : Typed) (store : Store) (tx : Tx) → READ * length (run typed store tx).steps ≤ (run typed store tx).fuel

-- fuel never rises along any part of a run
abbrev pub FuelNeverRises : Type 0
FuelNeverRises = (typed : Typed) (store : Store) → NoPartRaisesFuel typed store

-- all numbers of turns above the fuel mean the same loop
abbrev pub MoreTurnsChangeNothing : Type 0
MoreTurnsChangeNothing = (store : Store) (frame : Frame) (cond : TypedExpr) (body : Action) →
    ((locals : List ℕ) → NeverRaisesFuel (value_of store frame locals cond)) →
    ((locals : List ℕ) → NeverRaisesFuel (body locals)) →
    (m n : ℕ) (locals : List ℕ) (state : State) → state.fuel < m → state.fuel < n →
    turns store frame m cond body locals state ≡ turns store frame n cond body locals state

-- all numbers of turns above the fuel mean the same loop in each frame of a run
abbrev pub RunsEndLoopsByFuel : Type 0
RunsEndLoopsByFuel = (typed : Typed) (store : Store) (room here inv : ℕ) (cond : TypedExpr) (body : TypedBlock) →
    (m n : ℕ) (locals : List ℕ) (state : State) → state.fuel < m → state.fuel < n →
    loop_of store (frame_in typed store room here inv) m cond body locals state ≡ loop_of store (frame_in typed store room here inv) n cond body locals state

-- what a run read is what the store held before it
abbrev pub ReadsAreStored : Type 0
ReadsAreStored = (typed : Typed) (store : Store) (tx : Tx) → AgreesWith (run typed store tx).reads store

-- no cell stands twice among the reads of a run
abbrev pub ReadsDiffer : Type 0
ReadsDiffer = (typed : Typed) (store : Store) (tx : Tx) → AllPairs (λ a b. a ≢ b) (keys_of (run typed store tx).reads)

-- the writes of a run rise by cell
abbrev pub WritesRise : Type 0
WritesRise = (typed : Typed) (store : Store) (tx : Tx) → IsRising (run typed store tx).writes

-- a store after a run is a store
abbrev pub RunKeepsStore : Type 0
RunKeepsStore = (typed : Typed) (store : Store) (tx : Tx) → IsStore store → IsStore (run typed store tx).store

-- a run, kept, stands for the run of its transaction on every store that agrees with its reads
abbrev pub RunStands : Type 0
RunStands = (typed : Typed) (store : Store) (tx : Tx) → StandsFor typed tx (kept_run (run typed store tx))

-- two stores that agree on what a run reads give the same run
abbrev pub SameReadsSameRun : Type 0
SameReadsSameRun = (typed : Typed) (store other : Store) (tx : Tx) →
    AgreesWith (run typed store tx).reads other → kept_run (run typed other tx) ≡ kept_run (run typed store tx)

-- each read step of a run has the number of the last write step before it on its cell, else the store's
abbrev pub ReadsSeeWrites : Type 0
ReadsSeeWrites = (typed : Typed) (store : Store) (tx : Tx) → AreSeen store [] (run typed store tx).steps

-- the writes of a run that answers are the cells of its write steps, with the last number of each
abbrev pub WritesAreOfSteps : Type 0
WritesAreOfSteps = (typed : Typed) (store : Store) (tx : Tx) (value : ℕ) →
    (run typed store tx).outcome ≡ Answer value → (run typed store tx).writes ≡ after_steps [] (run typed store tx).steps

-- where the run doesn't run out of fuel, the fuel used is what was charged in its invocations, undone ones among them
abbrev pub FuelAddsUp : Type 0
FuelAddsUp = (typed : Typed) (store : Store) (tx : Tx) →
    (run typed store tx).outcome ≢ OutOfFuel → total_charge (run typed store tx).invocations ≡ (run typed store tx).fuel

-- what was charged in a run's invocations is at most the fuel used
abbrev pub ChargedIsUsed : Type 0
ChargedIsUsed = (typed : Typed) (store : Store) (tx : Tx) → total_charge (run typed store tx).invocations ≤ (run typed store tx).fuel

-- each step is of one of the run's invocations, and of none that was undone
abbrev pub UndoneStepsVanish : Type 0
UndoneStepsVanish = (typed : Typed) (store : Store) (tx : Tx) →
    All (IsOfStandingInvocation (run typed store tx).invocations) (run typed store tx).steps
