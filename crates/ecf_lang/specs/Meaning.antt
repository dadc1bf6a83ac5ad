-- What a transaction does, by cases of the typed forms.
use Rattle.std.specs.Prelude.{◌==◌, ℕ, zero, suc, ◌+◌, ◌-◌, ◌*◌, ◌/◌, ◌%◌, ◌^◌, Bool, true, false, not, if◌then◌else◌, nat_le, nat_lt, List, [], ◌∷◌, ◌++◌, length, map, replicate, slice_index, slice_set, Option, Some, None, Result, Ok, Err}
use Rattle.ecf_lang.specs.declared.cell.Cell.{Cell}
use Rattle.ecf_lang.specs.declared.costs.TheConstants.{STATEMENT, TURN, LEAF, READ, WRITE, OPERATOR, TEST, EXTERNAL_CALL, INTERNAL_CALL}
use Rattle.ecf_lang.specs.declared.limits.TheConstants.{MAX_FRAMES, MAX_INVOCATIONS}
use Rattle.ecf_lang.specs.declared.run.Step.{Step}
use Rattle.ecf_lang.specs.declared.run.Invocation.{Invocation}
use Rattle.ecf_lang.specs.declared.run.Cause.{Cause}
use Rattle.ecf_lang.specs.declared.run.Cause.TheVariants.{User, Overflow, DivZero, NoMethod, Depth, Calls}
use Rattle.ecf_lang.specs.declared.run.Outcome.{Outcome}
use Rattle.ecf_lang.specs.declared.run.Outcome.TheVariants.{Answer, Reverted, OutOfFuel}
use Rattle.ecf_lang.specs.declared.run.Run.{Run}
use Rattle.ecf_lang.specs.declared.tree.Op.{Op}
use Rattle.ecf_lang.specs.declared.tree.Op.TheVariants.{Add, Sub, Mul, Div, Rem, Eq, Ne, Lt, Le, Gt, Ge}
use Rattle.ecf_lang.specs.declared.typed.Place.{Place}
use Rattle.ecf_lang.specs.declared.typed.Place.TheVariants as place
use Rattle.ecf_lang.specs.declared.typed.Assignee.{Assignee}
use Rattle.ecf_lang.specs.declared.typed.Assignee.TheVariants as assignee
use Rattle.ecf_lang.specs.declared.typed.Typed.{Typed}
use Rattle.ecf_lang.specs.declared.typed.TypedMethod.{TypedMethod}
use Rattle.ecf_lang.specs.declared.typed.TypedExpr.{TypedExpr, TypedExpr-F, fold-TypedExpr}
use Rattle.ecf_lang.specs.declared.typed.TypedCall.{TypedCall, TypedCall-F, fold-TypedCall}
use Rattle.ecf_lang.specs.declared.typed.TypedStmt.{TypedStmt, TypedStmt-F, fold-TypedStmt}
use Rattle.ecf_lang.specs.declared.typed.TypedBlock.{TypedBlock, TypedBlock-F, fold-TypedBlock}
use Rattle.ecf_lang.specs.declared.tx.Tx.{Tx}
use Rattle.ecf_lang.specs.declared.tx.TxCall.{TxCall}
use Rattle.ecf_lang.specs.Store.{Store, Cells, with_writes}
use Rattle.ecf_lang.specs.Fits.{method_at}
use Rattle.ecf_lang.specs.Part.{State, Halt, Reverts, RunsOut, Control, Done, Exit, Part, after, ◌>>=◌, ◌>>◌, pure, revert, pay, read_cell, write_cell, note, with_heard, with_answer, begin, attempt_of}

-- the first where the number is 0, which is false, and else the second
abbrev pub at_zero : {A : Type 0} → ℕ → A → A → A
at_zero zero a b = a
at_zero (suc n) a b = b

-- a test as a number
abbrev pub flag_of : Bool → ℕ
flag_of true = 1
flag_of false = 0

-- a number of the language
abbrev pub in_range : ℕ → Result ℕ Cause
in_range n = if nat_lt n (2 ^ 128) then Ok n else Err Overflow

-- a quotient or remainder; there is none by 0
abbrev pub division : (ℕ → ℕ → ℕ) → ℕ → ℕ → Result ℕ Cause
division f x zero = Err DivZero
division f x (suc y) = Ok (f x (suc y))

-- an operator's value at two numbers
abbrev pub op_value : Op → ℕ → ℕ → Result ℕ Cause
op_value Add x y = in_range (x + y)
op_value Sub x y = if nat_le y x then Ok (x - y) else Err Overflow
op_value Mul x y = in_range (x * y)
op_value Div x y = division (λ a b. a / b) x y
op_value Rem x y = division (λ a b. a % b) x y
op_value Eq x y = Ok (flag_of (x == y))
op_value Ne x y = Ok (flag_of (not (x == y)))
op_value Lt x y = Ok (flag_of (nat_lt x y))
op_value Le x y = Ok (flag_of (nat_le x y))
op_value Gt x y = Ok (flag_of (nat_lt y x))
op_value Ge x y = Ok (flag_of (nat_le y x))

-- gives a value, or reverts for its cause
abbrev pub or_revert : Result ℕ Cause → Part ℕ
or_revert (Ok value) = pure value
or_revert (Err cause) = revert cause

-- what the calls in a frame do: an internal one by method and arguments; an external one, to whichever object, by
-- object, name and arguments; and the latter under a try, which gives 1 or 0
pub record Opens : Type 0 where
  pub internal : ℕ → List ℕ → Part ℕ
  pub external : ℕ → ℕ → List ℕ → Part ℕ
  pub attempt : ℕ → ℕ → List ℕ → Part ℕ

-- where a method's body runs: its object, its invocation, and what its calls do
pub record Frame : Type 0 where
  pub here : ℕ
  pub inv : ℕ
  pub opens : Opens

module _ (store : Store) (frame : Frame) where
  -- a charge in the frame's invocation
  abbrev pub charge : ℕ → Part Unit
  charge n = pay frame.inv n

  -- a cell of the frame's object
  abbrev pub own_cell : ℕ → ℕ → Cell
  own_cell field key = record { object = frame.here; field = field; key = key }

  -- a read of a cell of the frame's object
  abbrev pub fetch : ℕ → ℕ → Part ℕ
  fetch field key = read_cell store frame.inv (own_cell field key)

  -- the further parts of a sum or product: each part, its charge, its operator
  abbrev pub chain : ℕ → List (Op × Part ℕ) → Part ℕ
  chain x [] = pure x
  chain x ((op, part) ∷ parts) = part >>= (λ y. charge OPERATOR >> (or_revert (op_value op x y) >>= (λ z. chain z parts)))

  -- the further parts of an `&&`, up to the first that is false
  abbrev pub all_true : ℕ → List (Part ℕ) → Part ℕ
  all_true x [] = pure x
  all_true x (part ∷ parts) = charge TEST >> at_zero x (pure x) (part >>= (λ y. all_true y parts))

  -- the further parts of an `||`, up to the first that is true
  abbrev pub any_true : ℕ → List (Part ℕ) → Part ℕ
  any_true x [] = pure x
  any_true x (part ∷ parts) = charge TEST >> at_zero x (part >>= (λ y. any_true y parts)) (pure x)

  -- a first part and what its further parts make of it
  abbrev pub first_then : List (Part ℕ) → (ℕ → List (Part ℕ) → Part ℕ) → Part ℕ
  first_then [] further = pure 0
  first_then (part ∷ parts) further = part >>= (λ x. further x parts)

  -- the values of arguments, one after the other
  abbrev pub each : List (Part ℕ) → (List ℕ → Part ℕ) → Part ℕ
  each [] next = next []
  each (part ∷ parts) next = part >>= (λ x. each parts (λ xs. next (x ∷ xs)))

  -- a call: its target, its arguments, its charge, and then what such calls do in the frame
  abbrev pub call_step : TypedCall-F (Part ℕ) (Part ℕ) → Part ℕ
  call_step (TypedCall-F.External target name args) =
      target >>= (λ to. each args (λ xs. charge EXTERNAL_CALL >> frame.opens.external to name xs))
  call_step (TypedCall-F.Internal name args) = each args (λ xs. charge INTERNAL_CALL >> frame.opens.internal name xs)

  module _ (locals : List ℕ) where
    -- a name in an expression
    abbrev pub name_value : Place → Part ℕ
    name_value (place.Local n) = charge LEAF >> pure (slice_index locals n)
    name_value (place.Plain field) = charge READ >> fetch field 0
    name_value (place.Object object) = charge LEAF >> pure object

    -- an expression, from its parts
    abbrev pub expr_step : TypedExpr-F (Part ℕ) (Part ℕ) → Part ℕ
    expr_step (TypedExpr-F.Number value) = charge LEAF >> pure value
    expr_step (TypedExpr-F.Flag value) = charge LEAF >> pure (flag_of value)
    expr_step TypedExpr-F.Here = charge LEAF >> pure frame.here
    expr_step (TypedExpr-F.Name place) = name_value place
    expr_step (TypedExpr-F.At field key) = key >>= (λ k. charge READ >> fetch field k)
    expr_step (TypedExpr-F.Call call) = call
    expr_step (TypedExpr-F.Not inner) = inner >>= (λ x. charge OPERATOR >> pure (at_zero x 1 0))
    expr_step (TypedExpr-F.Product first rest) = first >>= (λ x. chain x rest)
    expr_step (TypedExpr-F.Sum first rest) = first >>= (λ x. chain x rest)
    expr_step (TypedExpr-F.Compare left op right) =
        left >>= (λ x. right >>= (λ y. charge OPERATOR >> or_revert (op_value op x y)))
    expr_step (TypedExpr-F.And parts) = first_then parts all_true
    expr_step (TypedExpr-F.Or parts) = first_then parts any_true

    -- the value of an expression
    unfoldable pub value_of : TypedExpr → Part ℕ
    value_of = fold-TypedExpr (Part ℕ) (Part ℕ) call_step expr_step

    -- the answer of a call
    unfoldable pub answer_of : TypedCall → Part ℕ
    answer_of = fold-TypedCall (Part ℕ) (Part ℕ) call_step expr_step

-- what a statement leads to: on with these locals, or back from the method with its answer
pub data Flow : Type 0 where
  Continues : List ℕ → Flow
  Returns : ℕ → Flow

-- a statement or block, from the locals before it
abbrev pub Action : Type 0
Action = List ℕ → Part Flow

-- on from a statement, unless the method is over
abbrev pub go_on : Flow → Action → Part Flow
go_on (Continues locals) next = next locals
go_on (Returns answer) next = pure (Returns answer)

module _ (store : Store) (frame : Frame) where
  -- the value of an expression at these locals
  abbrev pub value_at : TypedExpr → List ℕ → Part ℕ
  value_at expr locals = value_of store frame locals expr

  -- statements one after the other
  abbrev pub sequence : List Action → Action
  sequence [] locals = pure (Continues locals)
  sequence (first ∷ others) locals = first locals >>= (λ flow. go_on flow (sequence others))

  -- the block of the first arm whose condition is true, else the last block
  abbrev pub branch : List (TypedExpr × Action) → Option Action → Action
  branch [] None locals = pure (Continues locals)
  branch [] (Some last) locals = last locals
  branch ((cond, block) ∷ arms) last locals =
      value_at cond locals >>= (λ x. at_zero x (branch arms last locals) (block locals))

  -- a loop of at most so many turns
  unfoldable pub turns : ℕ → TypedExpr → Action → Action
  turns zero cond body locals state = Exit RunsOut (record state { fuel = 0 })
  turns (suc n) cond body locals state =
      after (value_at cond locals state) (λ x. at_zero x (pure (Continues locals)) (charge store frame TURN >> (body locals >>= (λ flow. go_on flow (turns n cond body)))))

  -- sets what is on the left of an assignment
  abbrev pub assign : Assignee → ℕ → Action
  assign (assignee.Local n) value locals = pure (Continues (slice_set locals n value))
  assign (assignee.Plain field) value locals =
      charge store frame WRITE >> (write_cell frame.inv (own_cell store frame field 0) value >> pure (Continues locals))

  -- a statement, from its blocks
  abbrev pub stmt_step : TypedStmt-F Action Action → Action
  stmt_step (TypedStmt-F.Let n ty expr) locals =
      charge store frame STATEMENT >> (value_at expr locals >>= (λ v. pure (Continues (slice_set locals n v))))
  stmt_step (TypedStmt-F.Try n target name args) locals =
      charge store frame STATEMENT >> (value_at target locals >>= (λ to.
      each store frame (map (λ arg. value_at arg locals) args) (λ xs. charge store frame EXTERNAL_CALL >> frame.opens.attempt to name xs) >>= (λ v.
      pure (Continues (slice_set locals n v)))))
  stmt_step (TypedStmt-F.Set to expr) locals =
      charge store frame STATEMENT >> (value_at expr locals >>= (λ v. assign to v locals))
  stmt_step (TypedStmt-F.SetAt field key expr) locals =
      charge store frame STATEMENT >> (value_at key locals >>= (λ k. value_at expr locals >>= (λ v.
      charge store frame WRITE >> (write_cell frame.inv (own_cell store frame field k) v >> pure (Continues locals)))))
  stmt_step (TypedStmt-F.If arms last) locals = charge store frame STATEMENT >> branch arms last locals
  -- each turn takes fuel, so no loop makes more turns than there is fuel
  stmt_step (TypedStmt-F.While cond body) locals =
      charge store frame STATEMENT >> (λ state. turns (suc state.fuel) cond body locals state)
  stmt_step (TypedStmt-F.Return expr) locals = charge store frame STATEMENT >> (value_at expr locals >>= (λ v. pure (Returns v)))
  stmt_step (TypedStmt-F.Revert expr) locals = charge store frame STATEMENT >> (value_at expr locals >>= (λ v. revert (User v)))
  stmt_step (TypedStmt-F.Do call) locals =
      charge store frame STATEMENT >> (answer_of store frame locals call >>= (λ _. pure (Continues locals)))

  -- a block, from its statements
  abbrev pub block_step : TypedBlock-F Action Action → Action
  block_step block = sequence block.stmts

  -- what a statement does
  unfoldable pub stmt_of : TypedStmt → Action
  stmt_of = fold-TypedStmt Action Action stmt_step block_step

  -- what a block does
  unfoldable pub block_of : TypedBlock → Action
  block_of = fold-TypedBlock Action Action stmt_step block_step

-- a method's answer: 0 where it ran to its end without a return
abbrev pub flow_answer : Flow → ℕ
flow_answer (Continues locals) = 0
flow_answer (Returns value) = value

-- a method's locals as it begins: its arguments, and 0 for each further local
abbrev pub locals_of : TypedMethod → List ℕ → List ℕ
locals_of method args = args ++ replicate (method.locals - length args) 0

-- a method's body, in its frame
abbrev pub body_of : Store → Frame → Option TypedMethod → List ℕ → Part ℕ
body_of store frame None args = revert NoMethod
body_of store frame (Some method) args =
    block_of store frame method.body (locals_of method args) >>= (λ flow. pure (flow_answer flow))

-- how methods are entered while so many more frames may be open: in an invocation that is there, and in a new one
pub record Ways : Type 0 where
  -- from the object and the invocation, a method by its name
  pub within : ℕ → ℕ → ℕ → List ℕ → Part ℕ
  -- from the object to be called, a method by its name
  pub anew : ℕ → ℕ → List ℕ → Part ℕ

-- what the calls in a frame do: what an external call, or a try, gives is kept among the caller's answers
abbrev pub opens_of : Ways → ℕ → ℕ → Opens
opens_of ways here inv = record {
  internal = λ name args. ways.within here inv name args;
  external = λ to name args. ways.anew to name args >>= (λ v. note (with_heard v) inv >> pure v);
  attempt = λ to name args. attempt_of (ways.anew to name args) >>= (λ v. note (with_heard v) inv >> pure v);
}

module _ (typed : Typed) (store : Store) where
  -- where a body of an object and an invocation runs, while methods are entered in these ways
  abbrev pub frame_of : Ways → ℕ → ℕ → Frame
  frame_of ways here inv = record { here = here; inv = inv; opens = opens_of ways here inv }

  -- a new invocation of a method, if the object has it
  abbrev pub invoke : Ways → ℕ → Option TypedMethod → ℕ → List ℕ → Part ℕ
  invoke ways to None name args = revert NoMethod
  invoke ways to (Some method) name args =
      begin to name args >>= (λ inv.
      body_of store (frame_of ways to inv) (Some method) args >>= (λ v. note (with_answer v) inv >> pure v))

  -- the tests of a call to an object: the number of invocations, then the method
  abbrev pub checked_call : Ways → ℕ → ℕ → List ℕ → Part ℕ
  checked_call ways to name args state =
      (if nat_lt (length state.invocations) MAX_INVOCATIONS then invoke ways to (method_at typed to name) name args else revert Calls) state

  -- how methods are entered where one more frame may be open
  abbrev pub one_deeper : Ways → Ways
  one_deeper ways = record {
    within = λ here inv name args. body_of store (frame_of ways here inv) (method_at typed here name) args;
    anew = λ to name args. checked_call ways to name args;
  }

  -- how methods are entered while so many more frames may be open
  unfoldable pub ways : ℕ → Ways
  ways zero = record { within = λ here inv name args. revert Depth; anew = λ to name args. revert Depth }
  ways (suc room) = one_deeper (ways room)

  -- a transaction's calls, one after the other; the answer is the last one's
  abbrev pub calls_of : List TxCall → Part ℕ
  calls_of [] = pure 0
  calls_of (call ∷ []) = (ways MAX_FRAMES).anew call.object call.method call.args
  calls_of (call ∷ next ∷ calls) = (ways MAX_FRAMES).anew call.object call.method call.args >> calls_of (next ∷ calls)

-- a run before its first step
abbrev pub initial_state : ℕ → State
initial_state fuel = record { fuel = fuel; written = []; reads = []; steps = []; invocations = [] }

-- a whole run of a transaction
pub record RunResult : Type 0 where
  pub outcome : Outcome
  -- the fuel used
  pub fuel : ℕ
  -- the store after it
  pub store : Store
  pub steps : List Step
  pub invocations : List Invocation
  -- what was read from the store, by first read
  pub reads : Cells
  -- the written cells with their last numbers, rising
  pub writes : Cells

-- a run's outcome where it stops without an answer
abbrev pub halt_outcome : Halt → Outcome
halt_outcome (Reverts cause) = Reverted cause
halt_outcome RunsOut = OutOfFuel

-- what a run came to, from where it led; without an answer it leaves the store and writes nothing
abbrev pub result_of : Store → ℕ → Control ℕ → RunResult
result_of store limit (Done value state) = record {
  outcome = Answer value;
  fuel = limit - state.fuel;
  store = with_writes store state.written;
  steps = state.steps;
  invocations = state.invocations;
  reads = state.reads;
  writes = state.written;
}
result_of store limit (Exit halt state) = record {
  outcome = halt_outcome halt;
  fuel = limit - state.fuel;
  store = store;
  steps = state.steps;
  invocations = state.invocations;
  reads = state.reads;
  writes = [];
}

-- the run of a transaction on a store
unfoldable pub run : Typed → Store → Tx → RunResult
run typed store tx = result_of store tx.fuel (calls_of typed store tx.calls (initial_state tx.fuel))

-- a run as a program keeps it: all but the store after it, which is the store before it with the writes
abbrev pub kept_run : RunResult → Run
kept_run r = record {
  outcome = r.outcome;
  fuel = r.fuel;
  steps = r.steps;
  invocations = r.invocations;
  reads = r.reads;
  writes = r.writes;
}
