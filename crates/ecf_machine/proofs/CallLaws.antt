-- What a call comes to: the body in its own frame, with the tasks that lead back to the caller.
use Rattle.std.proofs.Common.{◌≡◌, ℕ, zero, suc, ◌-◌, ◌<◌, ◌≤◌, Bool, true, false, List, ◌∷◌, Option, Some, None, length, refl, ap, sym, ◌∙◌, arith}
use Rattle.std.specs.Prelude.{nat_lt, if◌then◌else◌}
use Rattle.std.proofs.lemmas.Bool.Decides.{nat_tests}
use Rattle.ecf_lang.specs.declared.limits.TheConstants.{MAX_INVOCATIONS}
use Rattle.ecf_lang.specs.declared.run.Cause.TheVariants.{NoMethod, Depth, Calls}
use Rattle.ecf_lang.specs.declared.tx.TxCall.{TxCall}
use Rattle.ecf_lang.specs.declared.typed.TypedMethod.{TypedMethod}
use Rattle.ecf_lang.specs.Store.{Store}
use Rattle.ecf_lang.specs.Fits.{method_at}
use Rattle.ecf_lang.specs.Part.{State, Control, Done, Exit, Reverts, RunsOut, Part, after, ◌>>=◌, ◌>>◌, pure, revert, begin, note, with_answer, with_heard, attempt_of}
use Rattle.ecf_lang.specs.Meaning.{Frame, Flow, Continues, Returns, flow_answer, body_of, block_of, locals_of, ways, frame_of, invoke}
use Rattle.ecf_lang.specs.Alone.{next_answer}
use Rattle.ecf_lang.specs.Forms.{within_is}
use Rattle.std.specs.Borrow.{Bor}
use Rattle.ecf_progress.specs.Segments.{pushed, with_top}
use Rattle.ecf_progress.specs.Progress.{with_savepoint}
use Rattle.ecf_machine.specs.Returns.{IsReturn}
use Rattle.ecf_machine.specs.Parts.{Context, opens_by, opens_at, lone_internal, frame_at, calls_in, invoke_at, anew_at}
use Rattle.ecf_machine.specs.Continuations.{Continuation, resume, resume_flow, above, continuation_of}
use Rattle.ecf_machine.specs.declared.setting.Setting.{Setting}
use Rattle.ecf_machine.specs.declared.setting.External.{External}
use Rattle.ecf_machine.specs.declared.setting.External.TheVariants as external
use Rattle.ecf_progress.specs.declared.frame.OpenFrame.{OpenFrame}
use Rattle.ecf_machine.specs.declared.task.Task.{Task}
use Rattle.ecf_machine.specs.declared.task.Task.TheVariants as task

module _ (at : Setting) (next : Continuation) (context : Context) where
  -- an internal call's body
  pub internal_back : (frame : OpenFrame) (locals : List ℕ) (r : Control Flow) → resume next context (after r (λ flow. pure (flow_answer flow))) ≡ resume_flow (above at (task.Leave context.frame) next) (record context { frame = frame; locals = pushed locals context.locals }) r
  internal_back frame locals (Done (Continues others) s) = refl
  internal_back frame locals (Done (Returns v) s) = refl
  internal_back frame locals (Exit (Reverts cause) s) = refl
  internal_back frame locals (Exit RunsOut s) = refl

  -- a call to another object, whose answer the caller's invocation notes
  pub heard_back : (locals : List ℕ) (r : Control ℕ) → resume next context (after r (λ v. note (with_heard v) context.frame.inv >> pure v)) ≡ resume (above at (task.Leave context.frame) (above at task.Heard next)) (record context { locals = pushed locals context.locals }) r
  heard_back locals (Done v s) = refl
  heard_back locals (Exit (Reverts cause) s) = refl
  heard_back locals (Exit RunsOut s) = refl

  -- the same under a try that begins here
  pub caught_back : (locals : List ℕ) (s0 : State) (part : Part ℕ) (r : Control ℕ) → part s0 ≡ r → resume next context (after (attempt_of part s0) (λ v. note (with_heard v) context.frame.inv >> pure v)) ≡ resume (above at (task.Caught context.frame) (above at task.Heard next)) (record context { locals = pushed locals context.locals; backing = with_savepoint s0 context.backing }) r
  unfolding attempt_of
  caught_back locals s0 part (Done v s) is = rw is refl
  caught_back locals s0 part (Exit (Reverts cause) s) is = rw is refl
  caught_back locals s0 part (Exit RunsOut s) is = rw is refl

  -- a transaction's call, with those after it
  pub calls_back : (locals : List ℕ) (others : Bor (List TxCall)) (r : Control ℕ) → resume next context (after r (λ v. calls_in v others.now at context)) ≡ resume (above at (task.Leave context.frame) (above at (task.Calls others) next)) (record context { locals = pushed locals context.locals }) r
  calls_back locals others (Done v s) = refl
  calls_back locals others (Exit (Reverts cause) s) = refl
  calls_back locals others (Exit RunsOut s) = refl

  -- the body of a new invocation, whose frame is left next
  leave_back : (caller frame : OpenFrame) (locals : List ℕ) (r : Control Flow) → resume (above at (task.Leave caller) next) context (after (after r (λ flow. pure (flow_answer flow))) (λ v. note (with_answer v) frame.inv >> pure v)) ≡ resume_flow (above at task.Answered (above at (task.Leave caller) next)) (record context { frame = frame; locals = with_top context.locals locals }) r
  leave_back caller frame locals (Done (Continues others) s) = refl
  leave_back caller frame locals (Done (Returns v) s) = refl
  leave_back caller frame locals (Exit (Reverts cause) s) = refl
  leave_back caller frame locals (Exit RunsOut s) = refl

  try_back : (caller frame : OpenFrame) (locals : List ℕ) (r : Control Flow) → resume (above at (task.Caught caller) next) context (after (after r (λ flow. pure (flow_answer flow))) (λ v. note (with_answer v) frame.inv >> pure v)) ≡ resume_flow (above at task.Answered (above at (task.Caught caller) next)) (record context { frame = frame; locals = with_top context.locals locals }) r
  try_back caller frame locals (Done (Continues others) s) = refl
  try_back caller frame locals (Done (Returns v) s) = refl
  try_back caller frame locals (Exit (Reverts cause) s) = refl
  try_back caller frame locals (Exit RunsOut s) = refl

pub answered_back : (at : Setting) (tasks : List Task) → IsReturn tasks → (context : Context) (frame : OpenFrame) (locals : List ℕ) (r : Control Flow) → resume (continuation_of at tasks) context (after (after r (λ flow. pure (flow_answer flow))) (λ v. note (with_answer v) frame.inv >> pure v)) ≡ resume_flow (above at task.Answered (continuation_of at tasks)) (record context { frame = frame; locals = with_top context.locals locals }) r
answered_back at (task.Leave caller ∷ tasks) is context frame locals r = leave_back at (continuation_of at tasks) context caller frame locals r
answered_back at (task.Caught caller ∷ tasks) is context frame locals r = try_back at (continuation_of at tasks) context caller frame locals r
answered_back at _ is context frame locals r = absurd is

module _ (at : Setting) (store : Store) where
  -- an internal call, where one more frame may be opened, whatever calls to other objects do
  called_internal : (object inv room name : ℕ) (args : List ℕ) (s : State) → (opens_at at store (suc room) object inv).internal name args s ≡ body_of store (frame_at at store (record { object = object; inv = inv; room = room })) (method_at at.typed.now object name) args s
  unfolding opens_at lone_internal
  called_internal object inv room name args s = by_mode at.external
    where
      by_mode : (e : External) → (opens_by e at store (suc room) object inv).internal name args s ≡ body_of store (record { here = object; inv = inv; opens = opens_by e at store room object inv }) (method_at at.typed.now object name) args s
      by_mode external.Opens = within_is at.typed.now store room object inv name args s
      by_mode (external.Answers answers) = refl

  -- and where none may
  called_deep : (object inv name : ℕ) (args : List ℕ) (s : State) → (opens_at at store 0 object inv).internal name args s ≡ Exit (Reverts Depth) s
  unfolding opens_at lone_internal ways
  called_deep object inv name args s = by_mode at.external
    where
      by_mode : (e : External) → (opens_by e at store 0 object inv).internal name args s ≡ Exit (Reverts Depth) s
      by_mode external.Opens = refl
      by_mode (external.Answers answers) = refl

  -- what calls to other objects do where they open invocations
  opens_frame : at.external ≡ external.Opens → (object inv room : ℕ) → frame_of at.typed.now store (ways at.typed.now store room) object inv ≡ frame_at at store (record { object = object; inv = inv; room = room })
  unfolding opens_at
  opens_frame is object inv room = ap (λ e. record { here = object; inv = inv; opens = opens_by e at store room object inv }) (sym is)

  pub anew_is_meant : at.external ≡ external.Opens → (room to name : ℕ) (args : List ℕ) (s : State) → (ways at.typed.now store room).anew to name args s ≡ anew_at at store room to name args s
  unfolding ways
  anew_is_meant is zero to name args s = refl
  anew_is_meant is (suc room) to name args s = by_tests (nat_lt (length s.invocations) MAX_INVOCATIONS) (method_at at.typed.now to name)
    where
      frames : ◌≡◌ {A = ℕ → Frame} (λ inv. frame_of at.typed.now store (ways at.typed.now store room) to inv) (λ inv. frame_at at store (record { object = to; inv = inv; room = room }))
      frames = λ i inv. opens_frame is to inv room i

      by_tests : (few : Bool) (found : Option TypedMethod) → (if few then invoke at.typed.now store (ways at.typed.now store room) to found name args else revert Calls) s ≡ (if few then invoke_at at store room to found name args else revert Calls) s
      by_tests false found = refl
      by_tests true None = refl
      by_tests true (Some method) = ap (λ (frame : ℕ → Frame). (begin to name args >>= (λ inv. body_of store (frame inv) (Some method) args >>= (λ value. note (with_answer value) inv >> pure value))) s) frames

  pub called_external : at.external ≡ external.Opens → (object inv room to name : ℕ) (args : List ℕ) (s : State) → (opens_at at store room object inv).external to name args s ≡ after (anew_at at store room to name args s) (λ v. note (with_heard v) inv >> pure v)
  unfolding opens_at
  called_external is object inv room to name args s =
      ap (λ e. (opens_by e at store room object inv).external to name args s) is ∙ ap (λ r. after r (λ v. note (with_heard v) inv >> pure v)) (anew_is_meant is room to name args s)

  pub called_attempt : at.external ≡ external.Opens → (object inv room to name : ℕ) (args : List ℕ) (s : State) → (opens_at at store room object inv).attempt to name args s ≡ after (attempt_of (anew_at at store room to name args) s) (λ v. note (with_heard v) inv >> pure v)
  unfolding opens_at
  called_attempt is object inv room to name args s =
      let same : (ways at.typed.now store room).anew to name args ≡ anew_at at store room to name args = λ i s. anew_is_meant is room to name args s i in
      ap (λ e. (opens_by e at store room object inv).attempt to name args s) is ∙ ap (λ (part : Part ℕ). after (attempt_of part s) (λ v. note (with_heard v) inv >> pure v)) same

  -- and where they take the next answer
  pub external_answered : (answers : Bor (List ℕ)) → at.external ≡ external.Answers answers → (object inv room to name : ℕ) (args : List ℕ) (s : State) → (opens_at at store room object inv).external to name args s ≡ next_answer answers.now s
  unfolding opens_at
  external_answered answers is object inv room to name args s = ap (λ e. (opens_by e at store room object inv).external to name args s) is

  pub attempt_answered : (answers : Bor (List ℕ)) → at.external ≡ external.Answers answers → (object inv room to name : ℕ) (args : List ℕ) (s : State) → (opens_at at store room object inv).attempt to name args s ≡ next_answer answers.now s
  unfolding opens_at
  attempt_answered answers is object inv room to name args s = ap (λ e. (opens_by e at store room object inv).attempt to name args s) is

  module _ (frame : OpenFrame) (name : ℕ) (args : List ℕ) (s : State) where
    pub internal_deep : frame.room ≡ 0 → (opens_at at store frame.room frame.object frame.inv).internal name args s ≡ Exit (Reverts Depth) s
    internal_deep deep = ap (λ room. (opens_at at store room frame.object frame.inv).internal name args s) deep ∙ called_deep frame.object frame.inv name args s

    internal_found : (found : Option TypedMethod) → (frame.room ≡ 0 → ⊥) → method_at at.typed.now frame.object name ≡ found → (opens_at at store frame.room frame.object frame.inv).internal name args s ≡ body_of store (frame_at at store (record frame { room = frame.room - 1 })) found args s
    internal_found found room is =
        let more : frame.room ≡ suc (frame.room - 1) = omega (arith, room) in
        ap (λ room. (opens_at at store room frame.object frame.inv).internal name args s) more ∙ called_internal frame.object frame.inv (frame.room - 1) name args s
        ∙ ap (λ found. body_of store (frame_at at store (record frame { room = frame.room - 1 })) found args s) is

    pub internal_missing : (frame.room ≡ 0 → ⊥) → method_at at.typed.now frame.object name ≡ None → (opens_at at store frame.room frame.object frame.inv).internal name args s ≡ Exit (Reverts NoMethod) s
    internal_missing room is = internal_found None room is

    pub internal_opened : (method : TypedMethod) → (frame.room ≡ 0 → ⊥) → method_at at.typed.now frame.object name ≡ Some method → (opens_at at store frame.room frame.object frame.inv).internal name args s ≡ after (block_of store (frame_at at store (record frame { room = frame.room - 1 })) method.body (locals_of method args) s) (λ flow. pure (flow_answer flow))
    internal_opened method room is = internal_found (Some method) room is

  module _ (room to name : ℕ) (args : List ℕ) (s : State) where
    pub anew_deep : room ≡ 0 → anew_at at store room to name args s ≡ Exit (Reverts Depth) s
    anew_deep deep = ap (λ room. anew_at at store room to name args s) deep

    -- the tests behind that of the frames
    anew_tests : (few : Bool) (found : Option TypedMethod) → (room ≡ 0 → ⊥) → nat_lt (length s.invocations) MAX_INVOCATIONS ≡ few → method_at at.typed.now to name ≡ found → anew_at at store room to name args s ≡ (if few then invoke_at at store (room - 1) to found name args else revert Calls) s
    anew_tests few found left count is =
        let more : room ≡ suc (room - 1) = omega (arith, left) in
        ap (λ room. anew_at at store room to name args s) more
        ∙ ap (λ (few : Bool). (if few then invoke_at at store (room - 1) to (method_at at.typed.now to name) name args else revert Calls) s) count
        ∙ ap (λ found. (if few then invoke_at at store (room - 1) to found name args else revert Calls) s) is

    pub anew_full : (room ≡ 0 → ⊥) → MAX_INVOCATIONS ≤ length s.invocations → anew_at at store room to name args s ≡ Exit (Reverts Calls) s
    anew_full left full = anew_tests false _ left (grind (arith, nat_tests)) refl

    pub anew_missing : (room ≡ 0 → ⊥) → length s.invocations < MAX_INVOCATIONS → method_at at.typed.now to name ≡ None → anew_at at store room to name args s ≡ Exit (Reverts NoMethod) s
    anew_missing left few is = anew_tests true None left (grind (arith, nat_tests)) is

    pub anew_opened : (method : TypedMethod) (inv : ℕ) (s1 : State) → (room ≡ 0 → ⊥) → length s.invocations < MAX_INVOCATIONS → method_at at.typed.now to name ≡ Some method → begin to name args s ≡ Done inv s1
        → anew_at at store room to name args s ≡ after (after (block_of store (frame_at at store (record { object = to; inv = inv; room = room - 1 })) method.body (locals_of method args) s1) (λ flow. pure (flow_answer flow))) (λ v. note (with_answer v) inv >> pure v)
    anew_opened method inv s1 left few is begun =
        anew_tests true (Some method) left (grind (arith, nat_tests)) is
        ∙ ap (λ r. after r (λ inv. body_of store (frame_at at store (record { object = to; inv = inv; room = room - 1 })) (Some method) args >>= (λ value. note (with_answer value) inv >> pure value))) begun
