-- How the machine begins and ends.
use Rattle.std.proofs.Common.{◌≡◌, ℕ, zero, suc, List, [], ◌∷◌, Result, Ok, Err, refl, ap, sym, subst, ◌∙◌}
use Rattle.std.specs.Prelude.{IfOk}
use Rattle.ecf_lang.specs.declared.limits.TheConstants.{MAX_FRAMES}
use Rattle.ecf_lang.specs.declared.run.Invocation.{Invocation}
use Rattle.ecf_lang.specs.declared.run.Outcome.{Outcome}
use Rattle.ecf_lang.specs.declared.run.Run.{Run}
use Rattle.ecf_lang.specs.declared.tx.Tx.{Tx}
use Rattle.ecf_lang.specs.declared.tx.TxCall.{TxCall}
use Rattle.ecf_lang.specs.declared.typed.Typed.{Typed}
use Rattle.ecf_lang.specs.Store.{Store}
use Rattle.ecf_lang.specs.Fits.{method_at}
use Rattle.ecf_lang.specs.Part.{State, Control, Done, Exit, Reverts, RunsOut, after, begin}
use Rattle.ecf_lang.specs.Meaning.{body_of, ways, calls_of, initial_state, result_of, kept_run, run}
use Rattle.ecf_lang.specs.Alone.{inside, by_itself, alone, lone_of}
use Rattle.std.specs.Borrow.{Bor}
use Rattle.ecf_progress.specs.Outcomes.{outcome_at, IsLone}
use Rattle.ecf_machine.specs.Parts.{Context, lone_opens, lone_internal, opens_by, opens_at, anew_at, call_in, calls_in}
use Rattle.ecf_machine.specs.Continuations.{resume, continuation_of, without_args, context_in, from_call, from_doing}
use Rattle.ecf_machine.specs.Initial.{initial_machine}
use Rattle.ecf_progress.specs.declared.lone.Lone.{Lone}
use Rattle.ecf_machine.specs.declared.setting.Setting.{Setting}
use Rattle.ecf_machine.specs.declared.setting.External.TheVariants as external
use Rattle.ecf_machine.specs.declared.task.Callee.TheVariants as callee
use Rattle.ecf_progress.specs.declared.frame.OpenFrame.{OpenFrame}
use Rattle.ecf_machine.specs.declared.task.Task.{Task}
use Rattle.ecf_machine.specs.declared.task.Task.TheVariants as task
use Rattle.ecf_machine.specs.declared.task.Doing.TheVariants as doing
use Rattle.ecf_machine.specs.declared.machine.Machine.{Machine}
use Rattle.ecf_machine.proofs.CallLaws.{anew_is_meant}

-- with nothing that waits, what there is to give is given
pub resume_end : (at : Setting) (context : Context) (r : Control ℕ) → resume (continuation_of at []) context r ≡ r
resume_end at context (Done v s) = refl
resume_end at context (Exit (Reverts cause) s) = refl
resume_end at context (Exit RunsOut s) = refl

-- a transaction's calls, where each opens an invocation
module _ (at : Setting) (opens : at.external ≡ external.Opens) (context : Context) (room : context.frame.room ≡ MAX_FRAMES) where
  one_call : (call : TxCall) (s : State) → anew_at at context.backing.store context.frame.room call.object call.method call.args s ≡ (ways at.typed.now context.backing.store MAX_FRAMES).anew call.object call.method call.args s
  one_call call s =
      ap (λ n. anew_at at context.backing.store n call.object call.method call.args s) room ∙ sym (anew_is_meant at context.backing.store opens MAX_FRAMES call.object call.method call.args s)

  done : (r : Control ℕ) → after r (λ v. calls_in v [] at context) ≡ r
  done (Done v s) = refl
  done (Exit halt s) = refl

  more : (call : TxCall) (calls : List TxCall) → ((v : ℕ) (s : State) → calls_in v (call ∷ calls) at context s ≡ calls_of at.typed.now context.backing.store (call ∷ calls) s) → (r : Control ℕ) → after r (λ v. calls_in v (call ∷ calls) at context) ≡ after r (λ _. calls_of at.typed.now context.backing.store (call ∷ calls))
  more call calls later (Done v s) = later v s
  more call calls later (Exit halt s) = refl

  some_calls : (call : TxCall) (calls : List TxCall) (v : ℕ) (s : State) → calls_in v (call ∷ calls) at context s ≡ calls_of at.typed.now context.backing.store (call ∷ calls) s
  some_calls call [] v s = done (anew_at at context.backing.store context.frame.room call.object call.method call.args s) ∙ one_call call s
  some_calls call (next ∷ calls) v s =
      more next calls (some_calls next calls) (anew_at at context.backing.store context.frame.room call.object call.method call.args s)
      ∙ ap (λ r. after r (λ _. calls_of at.typed.now context.backing.store (next ∷ calls))) (one_call call s)

  pub calls_meant : (calls : List TxCall) (s : State) → calls_in 0 calls at context s ≡ calls_of at.typed.now context.backing.store calls s
  calls_meant [] s = refl
  calls_meant (call ∷ calls) s = some_calls call calls 0 s

-- an invocation alone
lone_is_meant : (at : Setting) (store : Store) (invocation : Invocation) (room name : ℕ) (args : List ℕ) (s : State) → lone_internal at store invocation.answers room invocation.object 0 name args s ≡ inside at.typed.now store invocation room name args s
unfolding lone_internal inside
lone_is_meant at store invocation zero name args s = refl
lone_is_meant at store invocation (suc room) name args s =
    let same : lone_internal at store invocation.answers room invocation.object 0 ≡ inside at.typed.now store invocation room = λ i name args s. lone_is_meant at store invocation room name args s i in
    ap (λ f. body_of store (record { here = invocation.object; inv = 0; opens = lone_opens invocation.answers f }) (method_at at.typed.now invocation.object name) args s) same

pub internal_meant : (at : Setting) (answers : Bor (List ℕ)) → at.external ≡ external.Answers answers → (store : Store) (invocation : Invocation) → answers.now ≡ invocation.answers → (room name : ℕ) (args : List ℕ) (s : State) → (opens_at at store room invocation.object 0).internal name args s ≡ inside at.typed.now store invocation room name args s
unfolding opens_at
internal_meant at answers alone store invocation same room name args s =
    ap (λ e. (opens_by e at store room invocation.object 0).internal name args s) alone
    ∙ ap (λ heard. lone_internal at store heard room invocation.object 0 name args s) same ∙ lone_is_meant at store invocation room name args s

-- where the machine leads from a transaction's calls, and from an invocation's method
pub run_ends : {R : Type 0} (at : Setting) (machine : Machine R) (end : Control ℕ) (store : Store) (fuel : ℕ) (frame : OpenFrame) (calls : Bor (List TxCall)) → from_doing at machine (doing.Give 0) ≡ end → at.external ≡ external.Opens → frame.room ≡ MAX_FRAMES
    → machine ≡ record (initial_machine store fuel frame) { tasks = task.Calls calls ∷ [] } → calls_of at.typed.now store calls.now (initial_state fuel) ≡ end
run_ends {R} at machine end store fuel frame calls ends opens room is =
    let context : Context = record { frame = frame; locals = record { top = []; below = [] }; args = record { top = []; below = [] }; backing = record { store = store; savepoints = [] } } in
    sym (resume_end at context (calls_in 0 calls.now at context (initial_state fuel)) ∙ calls_meant at opens context room calls.now (initial_state fuel))
    ∙ ap (λ (m : Machine R). from_doing at m (doing.Give 0)) (sym is) ∙ ends

pub lone_ends : {R : Type 0} (at : Setting) (machine : Machine R) (end : Control ℕ) (store : Store) (invocation : Invocation) (answers : Bor (List ℕ)) (inv : ℕ) → from_call at machine (call_in (callee.Internal invocation.method) machine.args.top) ≡ end
    → at.external ≡ external.Answers answers → answers.now ≡ invocation.answers → begin invocation.object invocation.method invocation.args (initial_state invocation.own_fuel) ≡ Done inv machine.state.run
    → machine.state.backing.store ≡ store → machine.frame ≡ record { object = invocation.object; inv = 0; room = MAX_FRAMES } → machine.args.top ≡ invocation.args → machine.tasks ≡ []
    → by_itself at.typed.now store invocation (initial_state invocation.own_fuel) ≡ end
lone_ends at machine end store invocation answers inv ends alone same begun stored frame args tasks =
    ap (λ r. after r (λ inv. inside at.typed.now store invocation MAX_FRAMES invocation.method invocation.args)) begun
    ∙ sym (internal_meant at answers alone store invocation same MAX_FRAMES invocation.method invocation.args machine.state.run)
    ∙ sym (ap (λ (store : Store). (opens_at at store MAX_FRAMES invocation.object 0).internal invocation.method invocation.args machine.state.run) stored)
    ∙ sym (ap (λ (frame : OpenFrame). (opens_at at machine.state.backing.store frame.room frame.object frame.inv).internal invocation.method invocation.args machine.state.run) frame)
    ∙ sym (ap (λ (args : List ℕ). (opens_at at machine.state.backing.store machine.frame.room machine.frame.object machine.frame.inv).internal invocation.method args machine.state.run) args)
    ∙ sym (resume_end at (without_args (context_in machine)) _)
    ∙ sym (ap (λ (tasks : List Task). resume (continuation_of at tasks) (without_args (context_in machine)) (call_in (callee.Internal invocation.method) machine.args.top at (context_in machine) machine.state.run)) tasks)
    ∙ ends

-- what is kept of a run that ended so
pub run_kept : {E : Type 0} (typed : Typed) (store : Store) (tx : Tx) (outcome : Outcome) (state : State) (r : Result Run E) → calls_of typed store tx.calls (initial_state tx.fuel) ≡ outcome_at outcome state → IfOk r (λ r. (store : Store) → r ≡ kept_run (result_of store tx.fuel (outcome_at outcome state))) → IfOk r (λ r. r ≡ kept_run (run typed store tx))
unfolding run
run_kept typed store tx outcome state (Ok r) ends kept = kept store ∙ ap (λ end. kept_run (result_of store tx.fuel end)) (sym ends)
run_kept typed store tx outcome state (Err e) ends kept = tt

pub lone_kept : {E : Type 0} (typed : Typed) (store : Store) (inv : ℕ) (invocation : Invocation) (outcome : Outcome) (state : State) (r : Result Lone E) → by_itself typed store invocation (initial_state invocation.own_fuel) ≡ outcome_at outcome state → IfOk r (λ lone. (store : Store) (fuel : ℕ) → IsLone (lone_of inv (result_of store fuel (outcome_at outcome state))) lone) → IfOk r (IsLone (alone typed inv invocation store))
unfolding alone
lone_kept typed store inv invocation outcome state (Ok lone) ends kept = subst (λ end. IsLone (lone_of inv (result_of store invocation.own_fuel end)) lone) (sym ends) (kept store invocation.own_fuel)
lone_kept typed store inv invocation outcome state (Err e) ends kept = tt
