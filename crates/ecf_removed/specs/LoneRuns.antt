-- Invocations of a run, each run alone, one after the other.
use Rattle.std.specs.Prelude.{◌≡◌, ℕ, List, [], ◌∷◌, map, slice_get, Option, Some, None, All}
use Rattle.ecf_lang.specs.declared.cell.Cell.{Cell}
use Rattle.ecf_lang.specs.declared.run.Step.{Step}
use Rattle.ecf_lang.specs.declared.run.Invocation.{Invocation}
use Rattle.ecf_lang.specs.declared.run.Outcome.TheVariants.{Answer}
use Rattle.ecf_lang.specs.declared.typed.Typed.{Typed}
use Rattle.ecf_lang.specs.declared.tx.Tx.{Tx}
use Rattle.ecf_lang.specs.Store.{Store, read, with_writes}
use Rattle.ecf_lang.specs.Meaning.{run}
use Rattle.ecf_lang.specs.Alone.{Lone, alone}
use Rattle.ecf_laws.specs.Replay.{after_steps}
use Rattle.ecf_verdicts.specs.Blocks.{block}
use Rattle.ecf_verdicts.specs.Placing.{placing}
use Rattle.ecf_verdicts.specs.Traces.{trace}

-- runs of invocations alone, each with its invocation's number, and the fields after the last
pub record LoneRuns : Type 0 where
  pub runs : List (ℕ × Lone)
  pub fields : Store

-- a run before others
abbrev pub with_run : ℕ → Lone → LoneRuns → LoneRuns
with_run inv lone others = record { runs = (inv, lone) ∷ others.runs; fields = others.fields }

-- the run of the invocation of that number, if there is one, and then the others from the fields that it leaves
abbrev pub run_and_others : Typed → ℕ → Option Invocation → Store → (Store → LoneRuns) → LoneRuns
run_and_others typed inv None fields others = others fields
run_and_others typed inv (Some one) fields others = with_run inv (alone typed inv one fields) (others (alone typed inv one fields).fields)

-- the runs of the invocations of these numbers, each alone on the fields that the one before left
unfoldable pub lone_runs : Typed → List Invocation → List ℕ → Store → LoneRuns
lone_runs typed invocations [] fields = record { runs = []; fields = fields }
lone_runs typed invocations (inv ∷ order) fields =
    run_and_others typed inv (slice_get invocations inv) fields (lone_runs typed invocations order)

-- run alone on these fields, the invocation answers as it did, by these steps and with their writes
pub record RepeatsAlone (typed : Typed) (inv : ℕ) (one : Invocation) (steps : List Step) (fields : Store) : Type 0 where
  pub value : ℕ
  pub answer : one.answer ≡ Some value
  pub same : alone typed inv one fields ≡
      record { outcome = Answer value; steps = steps; writes = after_steps [] steps; fields = with_writes fields (after_steps [] steps) }

-- run alone on these fields, the invocation of that number repeats what it did in the transaction's run
pub record RepeatsNext (typed : Typed) (store : Store) (tx : Tx) (inv : ℕ) (fields : Store) : Type 0 where
  pub one : Invocation
  pub is : slice_get (run typed store tx).invocations inv ≡ Some one
  pub does : RepeatsAlone typed inv one (block (run typed store tx).steps inv) fields

-- the numbered run has the recorded answer and the recorded steps, values included
pub record IsAsRecorded (invocations : List Invocation) (steps : List Step) (numbered : ℕ × Lone) : Type 0 where
  pub one : Invocation
  pub is : slice_get invocations numbered.0 ≡ Some one
  pub value : ℕ
  pub answer : one.answer ≡ Some value
  pub outcome : numbered.1.outcome ≡ Answer value
  pub steps_same : numbered.1.steps ≡ block steps numbered.0

-- the invocations with steps on the object, run alone from these fields in the named order, do as in the run: callbacks
-- into the object can be taken out of it
pub record CallbacksRemovedFrom (typed : Typed) (store : Store) (tx : Tx) (object : ℕ) (before : Store) (lone : LoneRuns) : Type 0 where
  pub numbers : map (λ r. r.0) lone.runs ≡ (placing (trace (run typed store tx).steps object)).order
  pub recorded : All (IsAsRecorded (run typed store tx).invocations (run typed store tx).steps) lone.runs
  -- the object's cells end as in the run
  pub inside : (cell : Cell) → cell.object ≡ object → read lone.fields cell ≡ read (run typed store tx).store cell
  -- and each other cell as it was
  pub outside : (cell : Cell) → (cell.object ≡ object → ⊥) → read lone.fields cell ≡ read before cell
