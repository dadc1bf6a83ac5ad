-- What follows when invocations are run alone.
use Rattle.std.specs.Prelude.{◌≡◌, ℕ, false, List, [], ◌∷◌, ◌++◌, slice_get, Some, IsSome, All}
use Rattle.ecf_lang.specs.declared.run.Step.{Step}
use Rattle.ecf_lang.specs.declared.run.Invocation.{Invocation}
use Rattle.ecf_lang.specs.declared.run.Outcome.TheVariants.{Answer}
use Rattle.ecf_lang.specs.declared.typed.Typed.{Typed}
use Rattle.ecf_lang.specs.declared.tx.Tx.{Tx}
use Rattle.ecf_lang.specs.Fits.{method_at}
use Rattle.ecf_lang.specs.Store.{Store, IsStore, read}
use Rattle.ecf_lang.specs.Meaning.{run}
use Rattle.ecf_laws.specs.Replay.{AreSeen}
use Rattle.ecf_verdicts.specs.Blocks.{block}
use Rattle.ecf_verdicts.specs.Free.{Free}
use Rattle.ecf_verdicts.specs.Placing.{placing}
use Rattle.ecf_verdicts.specs.Receipts.{receipt_on}
use Rattle.ecf_verdicts.specs.SerialLaws.{IsCommitted}
use Rattle.ecf_verdicts.specs.Swaps.{swaps}
use Rattle.ecf_verdicts.specs.Traces.{trace}
use Rattle.ecf_removed.specs.Contents.{Contents, contents_after_all, ReadsGive, AgreeOn, BlocksDoAlike, TraceSuffices}
use Rattle.ecf_removed.specs.LoneRuns.{lone_runs, RepeatsAlone, RepeatsNext, CallbacksRemovedFrom}

-- legal swaps keep what each read gives
abbrev pub SwapsKeepReads : Type 0
SwapsKeepReads = (t : List Step) (places : List ℕ) (u : List Step) → swaps t places ≡ Some u →
    (contents : Contents) → ReadsGive contents t → ReadsGive contents u

-- legal swaps keep what each cell holds at the end
abbrev pub SwapsKeepEnds : Type 0
SwapsKeepEnds = (t : List Step) (places : List ℕ) (u : List Step) → swaps t places ≡ Some u →
    (contents : Contents) → contents_after_all u contents ≡ contents_after_all t contents

-- a free trace, by blocks in its named order, reads the same and ends the same
abbrev pub FreeBlocksDoAlike : Type 0
FreeBlocksDoAlike = (t : List Step) → Free t → (contents : Contents) → ReadsGive contents t → BlocksDoAlike contents t

-- what steps do to an object depends on the object's cells alone
abbrev pub TracesSuffice : Type 0
TracesSuffice = (contents other : Contents) (steps : List Step) (object : ℕ) →
    AgreeOn object contents other → ReadsGive contents steps → TraceSuffices contents other steps object

-- Of a run that answered, an invocation that wasn't undone repeats alone what it did, on all fields from which its own
-- steps read as recorded: nothing but what it read and what its calls answered decides it.
abbrev pub InvocationsRepeatAlone : Type 0
InvocationsRepeatAlone = (typed : Typed) (store : Store) (tx : Tx) (value : ℕ) → (run typed store tx).outcome ≡ Answer value →
    (inv : ℕ) (one : Invocation) → slice_get (run typed store tx).invocations inv ≡ Some one → one.undone ≡ false →
    (fields : Store) → AreSeen fields [] (block (run typed store tx).steps inv) →
    RepeatsAlone typed inv one (block (run typed store tx).steps inv) fields

-- of a run that answered, an invocation that wasn't undone is of a method that its object has
abbrev pub InvocationsHaveMethods : Type 0
InvocationsHaveMethods = (typed : Typed) (store : Store) (tx : Tx) (value : ℕ) → (run typed store tx).outcome ≡ Answer value →
    (inv : ℕ) (one : Invocation) → slice_get (run typed store tx).invocations inv ≡ Some one → one.undone ≡ false →
    IsSome (method_at typed one.object one.method)

-- of a run that answered, the steps of an invocation that wasn't undone are on cells of its object
abbrev pub StepsOnOwnObject : Type 0
StepsOnOwnObject = (typed : Typed) (store : Store) (tx : Tx) (value : ℕ) → (run typed store tx).outcome ≡ Answer value →
    (inv : ℕ) (one : Invocation) → slice_get (run typed store tx).invocations inv ≡ Some one → one.undone ≡ false →
    All (λ step. step.cell.object ≡ one.object) (block (run typed store tx).steps inv)

-- further invocations, each run alone, go on from the fields that the earlier ones leave
abbrev pub LoneRunsGoOn : Type 0
LoneRunsGoOn = (typed : Typed) (invocations : List Invocation) (order more : List ℕ) (fields : Store) →
    let first = lone_runs typed invocations order fields in
    let second = lone_runs typed invocations more first.fields in
    lone_runs typed invocations (order ++ more) fields ≡ record { runs = first.runs ++ second.runs; fields = second.fields }

-- invocations run alone leave a store a store
abbrev pub LoneRunsKeepStore : Type 0
LoneRunsKeepStore = (typed : Typed) (invocations : List Invocation) (order : List ℕ) (fields : Store) →
    IsStore fields → IsStore (lone_runs typed invocations order fields).fields

-- Of a committed transaction, wherever the named order is cut before a number, that invocation repeats what it did on the
-- fields that those before it left.
abbrev pub EachRepeatsNext : Type 0
EachRepeatsNext = (typed : Typed) (store : Store) (tx : Tx) (object : ℕ) (before : Store) →
    IsStore store → IsStore before → IsCommitted (receipt_on typed store tx) → AgreeOn object (read before) (read store) →
    (taken more : List ℕ) (inv : ℕ) → (placing (trace (run typed store tx).steps object)).order ≡ taken ++ inv ∷ more →
    RepeatsNext typed store tx inv (lone_runs typed (run typed store tx).invocations taken before).fields

-- Of a committed transaction, an object, and fields that hold in the object's cells what the opening store holds there:
-- the invocations with steps on the object, run alone in the named order, do as in the run.
abbrev pub CallbacksRemoved : Type 0
CallbacksRemoved = (typed : Typed) (store : Store) (tx : Tx) (object : ℕ) (before : Store) →
    IsStore store → IsStore before → IsCommitted (receipt_on typed store tx) → AgreeOn object (read before) (read store) →
    CallbacksRemovedFrom typed store tx object before
    (lone_runs typed (run typed store tx).invocations (placing (trace (run typed store tx).steps object)).order before)
