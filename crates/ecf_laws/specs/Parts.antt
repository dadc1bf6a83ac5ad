-- Where a part of a run leads, and what of it holds whatever the value.
use Rattle.std.specs.Prelude.{ℕ, ◌≤◌, List}
use Rattle.ecf_lang.specs.declared.typed.Typed.{Typed}
use Rattle.ecf_lang.specs.declared.typed.TypedExpr.{TypedExpr}
use Rattle.ecf_lang.specs.declared.typed.TypedCall.{TypedCall}
use Rattle.ecf_lang.specs.declared.typed.TypedStmt.{TypedStmt}
use Rattle.ecf_lang.specs.declared.typed.TypedBlock.{TypedBlock}
use Rattle.ecf_lang.specs.declared.tx.TxCall.{TxCall}
use Rattle.ecf_lang.specs.Store.{Store}
use Rattle.ecf_lang.specs.Part.{State, Control, Done, Exit, Part}
use Rattle.ecf_lang.specs.Meaning.{Frame, Action, turns, frame_of, ways, value_of, answer_of, stmt_of, block_of, calls_of}

-- what the run has where a part led
abbrev pub end_state : {A : Type 0} → Control A → State
end_state (Done value state) = state
end_state (Exit halt state) = state

-- a part leaves no more fuel than it found
abbrev pub NeverRaisesFuel : {A : Type 0} → Part A → Type 0
NeverRaisesFuel part = (state : State) → (end_state (part state)).fuel ≤ state.fuel

-- the frame of an object and an invocation, where so many more frames may be open
abbrev pub frame_in : Typed → Store → ℕ → ℕ → ℕ → Frame
frame_in typed store room here inv = frame_of typed store (ways typed store room) here inv

-- a loop of at most so many turns, in a frame
abbrev pub loop_of : Store → Frame → ℕ → TypedExpr → TypedBlock → Action
loop_of store frame n cond body = turns store frame n cond (block_of store frame body)

-- no part of any run of the contract raises the fuel
pub record NoPartRaisesFuel (typed : Typed) (store : Store) : Type 0 where
  pub values : (room here inv : ℕ) (locals : List ℕ) (expr : TypedExpr) → NeverRaisesFuel (value_of store (frame_in typed store room here inv) locals expr)
  pub answers : (room here inv : ℕ) (locals : List ℕ) (call : TypedCall) → NeverRaisesFuel (answer_of store (frame_in typed store room here inv) locals call)
  pub statements : (room here inv : ℕ) (locals : List ℕ) (stmt : TypedStmt) → NeverRaisesFuel (stmt_of store (frame_in typed store room here inv) stmt locals)
  pub blocks : (room here inv : ℕ) (locals : List ℕ) (block : TypedBlock) → NeverRaisesFuel (block_of store (frame_in typed store room here inv) block locals)
  pub internal : (room here inv name : ℕ) (args : List ℕ) → NeverRaisesFuel ((ways typed store room).within here inv name args)
  pub invocations : (room to name : ℕ) (args : List ℕ) → NeverRaisesFuel ((ways typed store room).anew to name args)
  pub calls : (calls : List TxCall) → NeverRaisesFuel (calls_of typed store calls)
