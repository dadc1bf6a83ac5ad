-- An invocation run by itself: on the cells of its object, with what it was called with and what its calls answered.
use Rattle.std.specs.Prelude.{ℕ, zero, suc, List, length, map, slice_get, Option, Some, None}
use Rattle.std.specs.Option.{option_map_or}
use Rattle.ecf_lang.specs.declared.limits.TheConstants.{MAX_FRAMES}
use Rattle.ecf_lang.specs.declared.run.Step.{Step}
use Rattle.ecf_lang.specs.declared.run.Invocation.{Invocation}
use Rattle.ecf_lang.specs.declared.run.Cause.TheVariants.{Depth}
use Rattle.ecf_lang.specs.declared.run.Outcome.{Outcome}
use Rattle.ecf_lang.specs.declared.typed.Typed.{Typed}
use Rattle.ecf_lang.specs.Fits.{method_at}
use Rattle.ecf_lang.specs.Store.{Store, Cells}
use Rattle.ecf_lang.specs.Part.{State, Exit, RunsOut, Part, ◌>>=◌, ◌>>◌, pure, revert, note, with_heard, begin}
use Rattle.ecf_lang.specs.Meaning.{Frame, body_of, RunResult, result_of, initial_state}

-- gives an answer that is heard, or runs out of fuel where there is none
abbrev pub hear : Option ℕ → Part ℕ
hear None state = Exit RunsOut (record state { fuel = 0 })
hear (Some value) state = (note (with_heard value) 0 >> pure value) state

-- how many answers the run has heard
abbrev pub heard_count : State → ℕ
heard_count state = option_map_or (λ one. length one.answers) (slice_get state.invocations 0) 0

-- the next recorded answer
abbrev pub next_answer : List ℕ → Part ℕ
next_answer answers state = hear (slice_get answers (heard_count state)) state

module _ (typed : Typed) (fields : Store) (invocation : Invocation) where
  -- the invocation's frame: internal calls run, and each other call takes the next recorded answer
  abbrev pub lone_frame : (ℕ → List ℕ → Part ℕ) → Frame
  lone_frame internal = record {
    here = invocation.object;
    inv = 0;
    opens = record {
      internal = internal;
      external = λ to name args. next_answer invocation.answers;
      attempt = λ to name args. next_answer invocation.answers;
    };
  }

  -- a method of the object in the same invocation, where so many more frames may be open
  unfoldable pub inside : ℕ → ℕ → List ℕ → Part ℕ
  inside zero name args = revert Depth
  inside (suc room) name args = body_of fields (lone_frame (inside room)) (method_at typed invocation.object name) args

  -- the whole of it: one open frame, and its own fuel as the limit
  abbrev pub by_itself : Part ℕ
  by_itself = begin invocation.object invocation.method invocation.args >>= (λ inv. inside MAX_FRAMES invocation.method invocation.args)

-- a step under another invocation's number
abbrev pub of_invocation : ℕ → Step → Step
of_invocation inv step = record step { inv = inv }

-- what an invocation run alone comes to
pub record Lone : Type 0 where
  pub outcome : Outcome
  pub steps : List Step
  -- the written cells with their last numbers, rising
  pub writes : Cells
  -- the fields after it
  pub fields : Store

-- the run, with the steps under the invocation's number
abbrev pub lone_of : ℕ → RunResult → Lone
lone_of inv r = record { outcome = r.outcome; steps = map (of_invocation inv) r.steps; writes = r.writes; fields = r.store }

-- an invocation run alone on these fields
unfoldable pub alone : Typed → ℕ → Invocation → Store → Lone
alone typed inv invocation fields =
    lone_of inv (result_of fields invocation.own_fuel (by_itself typed fields invocation (initial_state invocation.own_fuel)))
