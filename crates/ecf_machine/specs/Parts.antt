-- What the machine's pieces mean: each a part of a run, in the open frame and at its locals.
use Rattle.std.specs.Prelude.{ℕ, zero, suc, Bool, true, false, if◌then◌else◌, nat_lt, List, [], ◌∷◌, ◌++◌, length, map, slice_set, Option, Some, None}
use Rattle.std.specs.Option.{option_map}
use Rattle.ecf_lang.specs.declared.costs.TheConstants.{TURN, LEAF, READ, WRITE, OPERATOR, EXTERNAL_CALL, INTERNAL_CALL}
use Rattle.ecf_lang.specs.declared.limits.TheConstants.{MAX_INVOCATIONS}
use Rattle.ecf_lang.specs.declared.tree.Op.{Op}
use Rattle.ecf_lang.specs.declared.run.Cause.TheVariants.{NoMethod, Depth, Calls}
use Rattle.ecf_lang.specs.declared.typed.Place.{Place}
use Rattle.ecf_lang.specs.declared.typed.Assignee.{Assignee}
use Rattle.ecf_lang.specs.declared.typed.TypedCall.{TypedCall}
use Rattle.ecf_lang.specs.declared.typed.TypedExpr.{TypedExpr}
use Rattle.ecf_lang.specs.declared.typed.TypedStmt.{TypedStmt}
use Rattle.ecf_lang.specs.declared.typed.TypedBlock.{TypedBlock}
use Rattle.ecf_lang.specs.declared.typed.TypedMethod.{TypedMethod}
use Rattle.ecf_lang.specs.declared.tx.TxCall.{TxCall}
use Rattle.ecf_lang.specs.Store.{Store}
use Rattle.ecf_lang.specs.Fits.{method_at}
use Rattle.ecf_lang.specs.Part.{Part, ◌>>=◌, ◌>>◌, pure, revert, write_cell, begin, note, with_answer}
use Rattle.ecf_lang.specs.Meaning.{Opens, Frame, Flow, Continues, Action, charge, fetch, own_cell, name_value, answer_of, first_then, chain, all_true, any_true, each, at_zero, or_revert, op_value, value_of, stmt_of, block_of, sequence, go_on, branch, turns, assign, body_of, ways, opens_of}
use Rattle.ecf_lang.specs.Alone.{next_answer}
use Rattle.ecf_progress.specs.Segments.{Lists}
use Rattle.ecf_progress.specs.Progress.{Backing}
use Rattle.ecf_machine.specs.declared.setting.Setting.{Setting}
use Rattle.ecf_machine.specs.declared.setting.External.{External}
use Rattle.ecf_machine.specs.declared.setting.External.TheVariants as external
use Rattle.ecf_machine.specs.declared.task.Callee.{Callee}
use Rattle.ecf_machine.specs.declared.task.Callee.TheVariants as callee
use Rattle.ecf_progress.specs.declared.frame.OpenFrame.{OpenFrame}

-- what calls do in an invocation alone, where internal calls do so
abbrev pub lone_opens : List ℕ → (ℕ → List ℕ → Part ℕ) → Opens
lone_opens answers internal = record {
  internal = internal;
  external = λ to name args. next_answer answers;
  attempt = λ to name args. next_answer answers;
}

-- what internal calls do in an invocation alone, where so many more frames may be open
unfoldable pub lone_internal : Setting → Store → List ℕ → ℕ → ℕ → ℕ → ℕ → List ℕ → Part ℕ
lone_internal at store answers zero here inv name args = revert Depth
lone_internal at store answers (suc room) here inv name args =
    body_of store (record { here = here; inv = inv; opens = lone_opens answers (lone_internal at store answers room here inv) }) (method_at at.typed.now here name) args

-- what calls do in a frame of that object and invocation, where so many more frames may be open, by what calls to other
-- objects do
abbrev pub opens_by : External → Setting → Store → ℕ → ℕ → ℕ → Opens
opens_by external.Opens at store room here inv = opens_of (ways at.typed.now store room) here inv
opens_by (external.Answers answers) at store room here inv = lone_opens answers.now (lone_internal at store answers.now room here inv)

-- the same, by what the setting says of calls to other objects
unfoldable pub opens_at : Setting → Store → ℕ → ℕ → ℕ → Opens
opens_at at store room here inv = opens_by at.external at store room here inv

-- the frame that is open
abbrev pub frame_at : Setting → Store → OpenFrame → Frame
frame_at at store opened = record { here = opened.object; inv = opened.inv; opens = opens_at at store opened.room opened.object opened.inv }

-- a new invocation of a method, if the object has it
abbrev pub invoke_at : Setting → Store → ℕ → ℕ → Option TypedMethod → ℕ → List ℕ → Part ℕ
invoke_at at store room to None name args = revert NoMethod
invoke_at at store room to (Some method) name args =
    begin to name args >>= (λ inv. body_of store (frame_at at store (record { object = to; inv = inv; room = room })) (Some method) args >>= (λ value. note (with_answer value) inv >> pure value))

-- the tests of a call to an object, where so many more frames may be open: the frames, the number of invocations, the method
abbrev pub anew_at : Setting → Store → ℕ → ℕ → ℕ → List ℕ → Part ℕ
anew_at at store zero to name args = revert Depth
anew_at at store (suc room) to name args = λ state.
    (if nat_lt (length state.invocations) MAX_INVOCATIONS then invoke_at at store room to (method_at at.typed.now to name) name args else revert Calls) state

-- the charge of a call
abbrev pub call_charge : Callee → ℕ
call_charge (callee.Internal name) = INTERNAL_CALL
call_charge (callee.External to name) = EXTERNAL_CALL
call_charge (callee.Attempt to name) = EXTERNAL_CALL

-- another object's method, under a try or not
abbrev pub callee_of : Bool → ℕ → ℕ → Callee
callee_of true to name = callee.Attempt to name
callee_of false to name = callee.External to name

-- what the machine has besides its tasks and the run's state: the open frame, the locals of all frames, the arguments so
-- far of all calls that are begun, and what is behind the state
pub record Context : Type 0 where
  pub frame : OpenFrame
  pub locals : Lists
  pub args : Lists
  pub backing : Backing

-- a piece that gives a value, and one that leads on from locals
abbrev pub Valued : Type 0
Valued = Setting → Context → Part ℕ

abbrev pub Acting : Type 0
Acting = Setting → Context → Part Flow

-- the meaning's frame
abbrev pub frame_in : Setting → Context → Frame
frame_in at context = frame_at at context.backing.store context.frame

-- a charge in the frame
abbrev pub charge_in : ℕ → Setting → Context → Part Unit
charge_in n at context = charge context.backing.store (frame_in at context) n

-- the value of an expression
abbrev pub value_in : TypedExpr → Valued
value_in expr at context = value_of context.backing.store (frame_in at context) context.locals.top expr

-- of several
abbrev pub values_in : List TypedExpr → Setting → Context → List (Part ℕ)
values_in exprs at context = map (λ expr. value_in expr at context) exprs

-- of the further parts of a sum or product
abbrev pub parts_in : List (Op × TypedExpr) → Setting → Context → List (Op × Part ℕ)
parts_in parts at context = map (λ part. (part.0, value_in part.1 at context)) parts

-- a value that is there, with its charge
abbrev pub constant_in : ℕ → Valued
constant_in value at context = charge_in LEAF at context >> pure value

-- further parts of a sum or product with their operators
abbrev pub chain_in : ℕ → List (Op × TypedExpr) → Valued
chain_in total parts at context = chain context.backing.store (frame_in at context) total (parts_in parts at context)

-- an operator with its charge, and the parts after it
abbrev pub further_in : ℕ → Op → ℕ → List (Op × TypedExpr) → Valued
further_in x op y parts at context = charge_in OPERATOR at context >> (or_revert (op_value op x y) >>= (λ z. chain_in z parts at context))

-- a comparison with its charge, from both values on
abbrev pub compared_in : ℕ → Op → ℕ → Valued
compared_in x op y at context = charge_in OPERATOR at context >> or_revert (op_value op x y)

-- a `!` with its charge, from the value on
abbrev pub not_in : ℕ → Valued
not_in value at context = charge_in OPERATOR at context >> pure (at_zero value 1 0)

-- a read of a cell of the frame's object, with its charge
abbrev pub fetch_in : ℕ → ℕ → Valued
fetch_in field key at context = charge_in READ at context >> fetch context.backing.store (frame_in at context) field key

-- a name
abbrev pub name_in : Place → Valued
name_in place at context = name_value context.backing.store (frame_in at context) context.locals.top place

-- a call, from its target and arguments on
abbrev pub answer_in : TypedCall → Valued
answer_in call at context = answer_of context.backing.store (frame_in at context) context.locals.top call

-- the parts of an `&&` or `||` from the first on
abbrev pub first_all_in : List TypedExpr → Valued
first_all_in parts at context = first_then context.backing.store (frame_in at context) (values_in parts at context) (all_true context.backing.store (frame_in at context))

abbrev pub first_any_in : List TypedExpr → Valued
first_any_in parts at context = first_then context.backing.store (frame_in at context) (values_in parts at context) (any_true context.backing.store (frame_in at context))

-- and from the value of one on
abbrev pub all_in : ℕ → List TypedExpr → Valued
all_in value parts at context = all_true context.backing.store (frame_in at context) value (values_in parts at context)

abbrev pub any_in : ℕ → List TypedExpr → Valued
any_in value parts at context = any_true context.backing.store (frame_in at context) value (values_in parts at context)

-- a call of arguments
abbrev pub call_in : Callee → List ℕ → Valued
call_in (callee.Internal name) args at context = (frame_in at context).opens.internal name args
call_in (callee.External to name) args at context = (frame_in at context).opens.external to name args
call_in (callee.Attempt to name) args at context = (frame_in at context).opens.attempt to name args

-- a call with its charge
abbrev pub entry_in : Callee → List ℕ → Valued
entry_in callee args at context = charge_in (call_charge callee) at context >> call_in callee args at context

-- further arguments of a call behind those there, and the call
abbrev pub args_in : Callee → List ℕ → List TypedExpr → Valued
args_in callee done args at context = each context.backing.store (frame_in at context) (values_in args at context) (λ xs. entry_in callee (done ++ xs) at context)

-- a block
abbrev pub block_in : TypedBlock → Acting
block_in block at context = block_of context.backing.store (frame_in at context) block context.locals.top

-- statements one after the other, from any locals
abbrev pub stmts_of : List TypedStmt → Setting → Context → Action
stmts_of stmts at context = sequence context.backing.store (frame_in at context) (map (stmt_of context.backing.store (frame_in at context)) stmts)

-- and from the frame's
abbrev pub stmts_in : List TypedStmt → Acting
stmts_in stmts at context = stmts_of stmts at context context.locals.top

-- a statement
abbrev pub stmt_in : TypedStmt → Acting
stmt_in stmt at context = stmt_of context.backing.store (frame_in at context) stmt context.locals.top

-- the arms of an `if`
abbrev pub branch_in : List (TypedExpr × TypedBlock) → Option TypedBlock → Acting
branch_in arms last at context =
    branch context.backing.store (frame_in at context) (map (λ arm. (arm.0, block_of context.backing.store (frame_in at context) arm.1)) arms) (option_map (block_of context.backing.store (frame_in at context)) last) context.locals.top

-- an `if` after a condition
abbrev pub chosen_in : ℕ → TypedBlock → List (TypedExpr × TypedBlock) → Option TypedBlock → Acting
chosen_in value block arms last at context = at_zero value (branch_in arms last at context) (block_in block at context)

-- so many turns of a loop
abbrev pub turns_of : ℕ → TypedExpr → TypedBlock → Setting → Context → Action
turns_of n cond body at context = turns context.backing.store (frame_in at context) n cond (block_of context.backing.store (frame_in at context) body)

-- and from the frame's locals
abbrev pub turns_in : ℕ → TypedExpr → TypedBlock → Acting
turns_in n cond body at context = turns_of n cond body at context context.locals.top

-- a loop, behind the statement's charge
abbrev pub loop_in : TypedExpr → TypedBlock → Acting
loop_in cond body at context state = turns_in (suc state.fuel) cond body at context state

-- a loop after its condition
abbrev pub tested_in : ℕ → TypedExpr → TypedBlock → ℕ → Acting
tested_in n cond body value at context =
    at_zero value (pure (Continues context.locals.top)) (charge_in TURN at context >> (block_in body at context >>= (λ flow. go_on flow (turns_of n cond body at context))))

-- a write of a cell of the frame's object, with its charge
abbrev pub put_in : ℕ → ℕ → ℕ → Acting
put_in field key value at context =
    charge_in WRITE at context >> (write_cell context.frame.inv (own_cell context.backing.store (frame_in at context) field key) value >> pure (Continues context.locals.top))

-- an assignment to a map, behind the statement's charge
abbrev pub keyed_in : ℕ → TypedExpr → TypedExpr → Acting
keyed_in field key expr at context = value_in key at context >>= (λ k. value_in expr at context >>= (λ v. put_in field k v at context))

-- a `try`, behind the statement's charge
abbrev pub try_in : ℕ → TypedExpr → ℕ → List TypedExpr → Acting
try_in n target name args at context =
    value_in target at context >>= (λ to. args_in (callee.Attempt to name) [] args at context >>= (λ v. pure (Continues (slice_set context.locals.top n v))))

-- an assignment to a local or plain field, from the value on
abbrev pub assign_in : Assignee → ℕ → Acting
assign_in to value at context = assign context.backing.store (frame_in at context) to value context.locals.top

-- the next recorded answer
abbrev pub next_in : List ℕ → Valued
next_in answers at context = next_answer answers

abbrev pub anew_in : ℕ → ℕ → List ℕ → Valued
anew_in to name args at context = anew_at at context.backing.store context.frame.room to name args

-- a transaction's further calls; the answer is the last one's
abbrev pub calls_in : ℕ → List TxCall → Valued
calls_in last [] at context = pure last
calls_in last (call ∷ calls) at context = anew_in call.object call.method call.args at context >>= (λ value. calls_in value calls at context)
