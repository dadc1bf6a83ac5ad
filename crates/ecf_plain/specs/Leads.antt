-- Where a form without calls leads, as the code tells it.
use Rattle.std.specs.Prelude.{◌≡◌, ℕ, suc, ◌+◌, ◌≤◌, List, map, Option, Result, Ok, Err}
use Rattle.std.specs.Option.{option_map}
use Rattle.ecf_lang.specs.declared.costs.TheConstants.{LEAF, READ, WRITE, OPERATOR}
use Rattle.ecf_lang.specs.declared.run.Cause.{Cause}
use Rattle.ecf_lang.specs.declared.run.Cause.TheVariants.{User, Overflow, DivZero}
use Rattle.ecf_lang.specs.declared.tree.Op.{Op}
use Rattle.ecf_lang.specs.declared.typed.Assignee.{Assignee}
use Rattle.ecf_lang.specs.declared.typed.Place.{Place}
use Rattle.ecf_lang.specs.declared.typed.TypedBlock.{TypedBlock}
use Rattle.ecf_lang.specs.declared.typed.TypedExpr.{TypedExpr}
use Rattle.ecf_lang.specs.declared.typed.TypedStmt.{TypedStmt}
use Rattle.ecf_lang.specs.Part.{Halt, Reverts, RunsOut, Control, Done, Exit, Part, ◌>>=◌, ◌>>◌, pure, write_cell}
use Rattle.ecf_lang.specs.Meaning.{Opens, Frame, Flow, Continues, Returns, charge, own_cell, fetch, name_value, chain, all_true, any_true, first_then, at_zero, op_value, or_revert, value_of, stmt_of, block_of, sequence, branch, turns, assign}
use Rattle.ecf_lang.specs.Store.{Store}
use Rattle.ecf_progress.specs.Progress.{Progress}
use Rattle.ecf_progress.specs.Segments.{Lists, with_top}
use Rattle.ecf_progress.specs.declared.frame.OpenFrame.{OpenFrame}
use Rattle.ecf_plain.specs.declared.stopped.Stopped.{Stopped}
use Rattle.ecf_plain.specs.declared.stopped.Stopped.TheVariants as stopped
use Rattle.ecf_plain.specs.declared.stopped.Leaving.{Leaving}
use Rattle.ecf_plain.specs.declared.stopped.Leaving.TheVariants as leaving

-- a piece of a run, in a frame on a store
abbrev pub Piece : Type 0 → Type 0
Piece A = Store → Frame → Part A

-- the meaning's frame, by what calls in it do
abbrev pub framed : OpenFrame → Opens → Frame
framed frame opens = record { here = frame.object; inv = frame.inv; opens = opens }

-- what there is to give comes to what is left of it, on the same store and with no more fuel than before
pub record Reaches {A : Type 0} (before after : Control A) (old new : Progress) : Type 0 where
  pub same : before ≡ after
  pub backing : new.backing ≡ old.backing
  pub spends : new.run.fuel ≤ old.run.fuel

-- a part stopped for this reason; nothing is said of want of memory, and no part stops at a call
abbrev pub EndedBy : {A : Type 0} → Control A → Stopped → Progress → Progress → Type 0
EndedBy control stopped.OutOfFuel old new = Reaches control (Exit RunsOut new.run) old new
EndedBy control stopped.Overflow old new = Reaches control (Exit (Reverts Overflow) new.run) old new
EndedBy control stopped.DivZero old new = Reaches control (Exit (Reverts DivZero) new.run) old new
EndedBy control stopped.OutOfMemory old new = Unit {0}
EndedBy control stopped.Call old new = ⊥

-- it led to this value, or stopped
abbrev pub Leads : {A U : Type 0} → Control A → Result U Stopped → A → Progress → Progress → Type 0
Leads control (Ok done) value old new = Reaches control (Done value new.run) old new
Leads control (Err stop) value old new = EndedBy control stop old new

-- a statement led on with these locals, back with this answer, or into a revert with this number, or it stopped
abbrev pub Moves : Control Flow → Result Leaving Stopped → List ℕ → ℕ → Progress → Progress → Type 0
Moves control (Ok leaving.Continues) locals number old new = Reaches control (Done (Continues locals) new.run) old new
Moves control (Ok leaving.Returns) locals number old new = Reaches control (Done (Returns number) new.run) old new
Moves control (Ok leaving.Reverts) locals number old new = Reaches control (Exit (Reverts (User number)) new.run) old new
Moves control (Err stop) locals number old new = EndedBy control stop old new

-- a piece does so in the open frame, whatever the calls in it would do
abbrev pub Does : {A U : Type 0} → OpenFrame → Piece A → Result U Stopped → A → Progress → Progress → Type 0
Does frame piece result value old new =
    (store : Store) → old.backing.store ≡ store → (opens : Opens) → Leads (piece store (framed frame opens) old.run) result value old new

-- and so does a piece of a statement
abbrev pub Acts : OpenFrame → Piece Flow → Result Leaving Stopped → List ℕ → ℕ → Progress → Progress → Type 0
Acts frame piece result locals number old new =
    (store : Store) → old.backing.store ≡ store → (opens : Opens) → Moves (piece store (framed frame opens) old.run) result locals number old new

-- a piece comes to another, which is then left to do
abbrev pub Comes : {A : Type 0} → OpenFrame → Piece A → Piece A → Progress → Progress → Type 0
Comes frame before after old new =
    (store : Store) → old.backing.store ≡ store → (opens : Opens) → Reaches (before store (framed frame opens) old.run) (after store (framed frame opens) new.run) old new

-- a charge
abbrev pub charged : ℕ → Piece Unit
charged n store frame = charge store frame n

-- a value that is there, with its charge
abbrev pub constant : ℕ → Piece ℕ
constant value store frame = charge store frame LEAF >> pure value

-- a read of a cell of the frame's object, with its charge
abbrev pub fetched : ℕ → ℕ → Piece ℕ
fetched field key store frame = charge store frame READ >> fetch store frame field key

-- a write of one
abbrev pub written : ℕ → ℕ → ℕ → Piece Unit
written field key value store frame = charge store frame WRITE >> write_cell frame.inv (own_cell store frame field key) value

-- a name, at these locals
abbrev pub named : List ℕ → Place → Piece ℕ
named locals place store frame = name_value store frame locals place

-- an expression
abbrev pub valued : List ℕ → TypedExpr → Piece ℕ
valued locals expr store frame = value_of store frame locals expr

-- a `!`, from the value on
abbrev pub negated : ℕ → Piece ℕ
negated value store frame = charge store frame OPERATOR >> pure (at_zero value 1 0)

-- an operator, from both values on
abbrev pub operated : ℕ → Op → ℕ → Piece ℕ
operated x op y store frame = charge store frame OPERATOR >> or_revert (op_value op x y)

-- the further parts of a sum or product
abbrev pub chained : List ℕ → ℕ → List (Op × TypedExpr) → Piece ℕ
chained locals total parts store frame = chain store frame total (map (λ part. (part.0, value_of store frame locals part.1)) parts)

-- the parts of an `&&` or `||`
abbrev pub all_of : List ℕ → List TypedExpr → Piece ℕ
all_of locals parts store frame = first_then store frame (map (value_of store frame locals) parts) (all_true store frame)

abbrev pub any_of : List ℕ → List TypedExpr → Piece ℕ
any_of locals parts store frame = first_then store frame (map (value_of store frame locals) parts) (any_true store frame)

-- and from the value of one on
abbrev pub all_after : List ℕ → ℕ → List TypedExpr → Piece ℕ
all_after locals value parts store frame = all_true store frame value (map (value_of store frame locals) parts)

abbrev pub any_after : List ℕ → ℕ → List TypedExpr → Piece ℕ
any_after locals value parts store frame = any_true store frame value (map (value_of store frame locals) parts)

-- a statement, from these locals
abbrev pub done_stmt : TypedStmt → List ℕ → Piece Flow
done_stmt stmt locals store frame = stmt_of store frame stmt locals

-- a block
abbrev pub done_block : TypedBlock → List ℕ → Piece Flow
done_block block locals store frame = block_of store frame block locals

-- statements one after the other
abbrev pub done_stmts : List TypedStmt → List ℕ → Piece Flow
done_stmts stmts locals store frame = sequence store frame (map (stmt_of store frame) stmts) locals

-- the arms of an `if`
abbrev pub branched : List (TypedExpr × TypedBlock) → Option TypedBlock → List ℕ → Piece Flow
branched arms last locals store frame = branch store frame (map (λ arm. (arm.0, block_of store frame arm.1)) arms) (option_map (block_of store frame) last) locals

-- so many turns of a loop
abbrev pub turned : ℕ → TypedExpr → TypedBlock → List ℕ → Piece Flow
turned n cond body locals store frame = turns store frame n cond (block_of store frame body) locals

-- a loop, behind the statement's charge
abbrev pub looped : TypedExpr → TypedBlock → List ℕ → Piece Flow
looped cond body locals store frame state = turned (suc state.fuel) cond body locals store frame state

-- an assignment, from the value on
abbrev pub assigned : Assignee → ℕ → List ℕ → Piece Flow
assigned to value locals store frame = assign store frame to value locals
