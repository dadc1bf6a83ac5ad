-- What the machine has still to give.
use Rattle.std.specs.Prelude.{ℕ, List, [], ◌∷◌, ◌++◌, slice_set}
use Rattle.ecf_lang.specs.declared.run.Cause.{Cause}
use Rattle.ecf_lang.specs.declared.run.Cause.TheVariants.{User}
use Rattle.ecf_lang.specs.declared.typed.TypedExpr.{TypedExpr}
use Rattle.ecf_lang.specs.Part.{Control, Done, Exit, Reverts, RunsOut, Part, ◌>>=◌, with_change, with_heard, with_answer}
use Rattle.ecf_lang.specs.Meaning.{Flow, Continues, Returns}
use Rattle.ecf_progress.specs.Segments.{popped, with_top}
use Rattle.ecf_progress.specs.Progress.{without_savepoint, undone_to}
use Rattle.ecf_progress.specs.Outcomes.{outcome_at}
use Rattle.ecf_machine.specs.Parts.{Context, Valued, Acting, value_in, chain_in, further_in, fetch_in, not_in, compared_in, all_in, any_in, args_in, callee_of, assign_in, put_in, chosen_in, tested_in, turns_in, stmts_in, calls_in}
use Rattle.ecf_machine.specs.declared.setting.Setting.{Setting}
use Rattle.ecf_progress.specs.declared.frame.OpenFrame.{OpenFrame}
use Rattle.ecf_machine.specs.declared.task.Task.{Task}
use Rattle.ecf_machine.specs.declared.task.Task.TheVariants as task
use Rattle.ecf_machine.specs.declared.task.Doing.{Doing}
use Rattle.ecf_machine.specs.declared.task.Doing.TheVariants as doing
use Rattle.ecf_machine.specs.declared.machine.Machine.{Machine}

-- what is to come, from a value, from a method's answer, and from a revert
pub record Continuation : Type 0 where
  pub value : Context → ℕ → Part ℕ
  pub answer : Context → ℕ → Part ℕ
  pub revert : Context → Cause → Part ℕ

-- with other locals in the frame
abbrev pub with_locals : Context → List ℕ → Context
with_locals context locals = record context { locals = with_top context.locals locals }

-- with none: what a frame's locals were is of no use once it is left
abbrev pub blank : Context → Context
blank context = with_locals context []

-- without the arguments of the innermost call
abbrev pub without_args : Context → Context
without_args context = record context { args = popped context.args }

-- back in the caller's frame
abbrev pub left : Context → OpenFrame → Context
left context caller = record context { frame = caller; locals = popped context.locals }

-- with the innermost try over
abbrev pub forgotten : Context → Context
forgotten context = record context { backing = without_savepoint context.backing }

-- on from where an expression leads
abbrev pub resume : Continuation → Context → Control ℕ → Control ℕ
resume next context (Done value state) = next.value context value state
resume next context (Exit (Reverts cause) state) = next.revert (blank context) cause state
resume next context (Exit RunsOut state) = Exit RunsOut state

-- on from where a statement leads; its end is given as 0
abbrev pub resume_flow : Continuation → Context → Control Flow → Control ℕ
resume_flow next context (Done (Continues locals) state) = next.value (with_locals context locals) 0 state
resume_flow next context (Done (Returns value) state) = next.answer (blank context) value state
resume_flow next context (Exit (Reverts cause) state) = next.revert (blank context) cause state
resume_flow next context (Exit RunsOut state) = Exit RunsOut state

-- what a task makes of a value
abbrev pub on_value : Setting → Task → Continuation → Context → ℕ → Part ℕ
on_value at (task.First parts) next context value s = resume next context (chain_in value parts.now at context s)
on_value at (task.Further total op parts) next context value s = resume next context (further_in total op value parts.now at context s)
on_value at (task.Index field) next context value s = resume next context (fetch_in field value at context s)
on_value at task.Not next context value s = resume next context (not_in value at context s)
on_value at (task.Left op right) next context value s = resume next context ((value_in right.now at context >>= (λ y. compared_in value op y at context)) s)
on_value at (task.Right total op) next context value s = resume next context (compared_in total op value at context s)
on_value at (task.And parts) next context value s = resume next context (all_in value parts.now at context s)
on_value at (task.Or parts) next context value s = resume next context (any_in value parts.now at context s)
on_value at (task.Target caught name args) next context value s = resume next context (args_in (callee_of caught value name) [] args.now at context s)
on_value at (task.Argument callee args) next context value s = resume next (without_args context) (args_in callee (context.args.top ++ value ∷ []) args.now at context s)
on_value at (task.Let n) next context value s = next.value (with_locals context (slice_set context.locals.top n value)) 0 s
on_value at (task.Assign to) next context value s = resume_flow next context (assign_in to value at context s)
on_value at (task.Key field expr) next context value s = resume_flow next context ((value_in expr.now at context >>= (λ v. put_in field value v at context)) s)
on_value at (task.Put field key) next context value s = resume_flow next context (put_in field key value at context s)
on_value at (task.Choose block arms last) next context value s = resume_flow next context (chosen_in value block.now arms.now last.now at context s)
on_value at (task.Test n cond body) next context value s = resume_flow next context (tested_in n cond.now body.now value at context s)
on_value at (task.Again n cond body) next context value s = resume_flow next context (turns_in n cond.now body.now at context s)
on_value at task.Return next context value s = next.answer (blank context) value s
on_value at task.Revert next context value s = next.revert (blank context) (User value) s
on_value at task.Ignore next context value s = next.value context 0 s
on_value at (task.Next stmts) next context value s = resume_flow next context (stmts_in stmts.now at context s)
on_value at task.Answered next context value s = next.answer (blank context) value (record s { invocations = with_change (with_answer value) s.invocations context.frame.inv })
on_value at task.Heard next context value s = next.value context value (record s { invocations = with_change (with_heard value) s.invocations context.frame.inv })
on_value at (task.Leave caller) next context value s = next.value (left context caller) value s
on_value at (task.Caught caller) next context value s = next.value (forgotten (left context caller)) 1 s
on_value at (task.Calls calls) next context value s = resume next context (calls_in value calls.now at context s)

-- what a task makes of the answer of the method that it stands in
abbrev pub on_answer : Setting → Task → Continuation → Context → ℕ → Part ℕ
on_answer at task.Answered next context value s = on_value at task.Answered next context value s
on_answer at (task.Leave caller) next context value s = on_value at (task.Leave caller) next context value s
on_answer at (task.Caught caller) next context value s = on_value at (task.Caught caller) next context value s
on_answer at (task.Argument callee args) next context value s = next.answer (without_args context) value s
on_answer at _ next context value s = next.answer context value s

-- what a task makes of a revert
abbrev pub on_revert : Task → Continuation → Context → Cause → Part ℕ
on_revert (task.Argument callee args) next context cause s = next.revert (blank (without_args context)) cause s
on_revert (task.Leave caller) next context cause s = next.revert (blank (left context caller)) cause s
on_revert (task.Caught caller) next context cause s = next.value (forgotten (left context caller)) 0 (undone_to context.backing s)
on_revert _ next context cause s = next.revert (blank context) cause s

-- what a task makes of each, before what comes after it
abbrev pub above : Setting → Task → Continuation → Continuation
above at waits next = record { value = on_value at waits next; answer = on_answer at waits next; revert = on_revert waits next }

-- what tasks make of each
abbrev pub continuation_of : Setting → List Task → Continuation
continuation_of at [] = record {
  value = λ context value s. Done value s;
  answer = λ context value s. Done value s;
  revert = λ context cause s. Exit (Reverts cause) s;
}
continuation_of at (waits ∷ tasks) = above at waits (continuation_of at tasks)

module _ {R : Type 0} where
  -- what the machine has besides its tasks
  abbrev pub context_in : Machine R → Context
  context_in machine = record { frame = machine.frame; locals = machine.locals; args = machine.args; backing = machine.state.backing }

  -- where the machine leads from a piece that gives a value
  abbrev pub from_part : Setting → Machine R → Valued → Control ℕ
  from_part at machine part = resume (continuation_of at machine.tasks) (context_in machine) (part at (context_in machine) machine.state.run)

  -- and from one that acts
  abbrev pub from_action : Setting → Machine R → Acting → Control ℕ
  from_action at machine action = resume_flow (continuation_of at machine.tasks) (context_in machine) (action at (context_in machine) machine.state.run)

  -- from a value
  abbrev pub from_value : Setting → Machine R → ℕ → Control ℕ
  from_value at machine value = (continuation_of at machine.tasks).value (context_in machine) value machine.state.run

  -- from the method's answer
  abbrev pub from_answer : Setting → Machine R → ℕ → Control ℕ
  from_answer at machine value = (continuation_of at machine.tasks).answer (blank (context_in machine)) value machine.state.run

  -- from a revert
  abbrev pub from_revert : Setting → Machine R → Cause → Control ℕ
  from_revert at machine cause = (continuation_of at machine.tasks).revert (blank (context_in machine)) cause machine.state.run

  -- from a value for this task
  abbrev pub from_task : Setting → Machine R → Task → ℕ → Control ℕ
  from_task at machine waits value = on_value at waits (continuation_of at machine.tasks) (context_in machine) value machine.state.run

  -- from an expression for this task
  abbrev pub from_wait : Setting → Machine R → Task → TypedExpr → Control ℕ
  from_wait at machine waits expr = resume (above at waits (continuation_of at machine.tasks)) (context_in machine) (value_in expr at (context_in machine) machine.state.run)

  -- from a piece of which the innermost call's arguments are the last use
  abbrev pub from_call : Setting → Machine R → Valued → Control ℕ
  from_call at machine part = resume (continuation_of at machine.tasks) (without_args (context_in machine)) (part at (context_in machine) machine.state.run)

  -- from what comes next
  abbrev pub from_doing : Setting → Machine R → Doing → Control ℕ
  from_doing at machine (doing.Body stmts) = from_action at machine (stmts_in stmts.now)
  from_doing at machine (doing.Eval expr) = from_part at machine (value_in expr.now)
  from_doing at machine (doing.Give value) = from_value at machine value
  from_doing at machine (doing.Back value) = from_answer at machine value
  from_doing at machine (doing.Stop cause) = from_revert at machine cause
  from_doing at machine (doing.Over outcome) = outcome_at outcome machine.state.run
