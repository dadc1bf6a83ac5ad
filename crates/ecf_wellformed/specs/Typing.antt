-- Which types expressions, statements and blocks of a contract's methods have: a case for each form.
use Rattle.std.specs.Prelude.{◌≡◌, ℕ, suc, ◌^◌, ◌<◌, Bool, List, [], ◌∷◌, find, slice_get, length, ◌==◌, All, Any, IsSome, Option, Some, None}
use Rattle.ecf_lang.specs.declared.tree.Ty.{Ty}
use Rattle.ecf_lang.specs.declared.tree.Ty.TheVariants.{Num, Flag, Addr}
use Rattle.ecf_lang.specs.declared.tree.Op.{Op}
use Rattle.ecf_lang.specs.declared.tree.Op.TheVariants as op
use Rattle.ecf_lang.specs.declared.typed.FieldKind.TheVariants as kind
use Rattle.ecf_lang.specs.declared.typed.Place.{Place}
use Rattle.ecf_lang.specs.declared.typed.Place.TheVariants as place
use Rattle.ecf_lang.specs.declared.typed.Assignee.{Assignee}
use Rattle.ecf_lang.specs.declared.typed.Assignee.TheVariants as assignee
use Rattle.ecf_lang.specs.declared.typed.Typed.{Typed}
use Rattle.ecf_lang.specs.declared.typed.Signature.{Signature}
use Rattle.ecf_lang.specs.declared.typed.TypedField.{TypedField}
use Rattle.ecf_lang.specs.declared.typed.TypedObject.{TypedObject}
use Rattle.ecf_lang.specs.declared.typed.TypedExpr.{TypedExpr}
use Rattle.ecf_lang.specs.declared.typed.TypedExpr.TheVariants as expr
use Rattle.ecf_lang.specs.declared.typed.TypedCall.{TypedCall}
use Rattle.ecf_lang.specs.declared.typed.TypedCall.TheVariants as called
use Rattle.ecf_lang.specs.declared.typed.TypedStmt.{TypedStmt}
use Rattle.ecf_lang.specs.declared.typed.TypedStmt.TheVariants as stmt
use Rattle.ecf_lang.specs.declared.typed.TypedBlock.{TypedBlock, roll-TypedBlock}
use Rattle.ecf_lang.specs.Fits.{method_of}

-- the operators of sums, of products, of equality and of order
pub data IsOfSum : Op → Type 0 where
  plus : IsOfSum op.Add
  minus : IsOfSum op.Sub

pub data IsOfProduct : Op → Type 0 where
  times : IsOfProduct op.Mul
  quotient : IsOfProduct op.Div
  remainder : IsOfProduct op.Rem

pub data IsEquality : Op → Type 0 where
  equal : IsEquality op.Eq
  unequal : IsEquality op.Ne

pub data IsOrder : Op → Type 0 where
  less : IsOrder op.Lt
  less_equal : IsOrder op.Le
  greater : IsOrder op.Gt
  greater_equal : IsOrder op.Ge

-- the locals that are visible, each by its number and type
abbrev pub Scope : Type 0
Scope = List (ℕ × Ty)

-- a local of that type is visible
abbrev pub Sees : Scope → ℕ → Ty → Type 0
Sees visible local ty = find (λ v. v.0 == local) visible ≡ Some (local, ty)

-- some object has a method of that name
abbrev pub IsMethodName : Typed → ℕ → Type 0
IsMethodName typed name = Any (λ object. IsSome (method_of object name)) typed.objects

module _ (typed : Typed) (own : TypedObject) where
  -- what a name in an expression stands for, and its type
  pub data PlaceHas (visible : Scope) : Place → Ty → Type 0 where
    local : {n : ℕ} {ty : Ty} → Sees visible n ty → PlaceHas visible (place.Local n) ty
    plain : {n : ℕ} {field : TypedField} {ty : Ty} → slice_get own.fields n ≡ Some field → field.kind ≡ kind.Plain ty → PlaceHas visible (place.Plain n) ty
    object : {n : ℕ} → n < length typed.objects → PlaceHas visible (place.Object n) Addr

  -- what an assignment without an index changes, and its type
  pub data AssigneeHas (visible : Scope) : Assignee → Ty → Type 0 where
    local : {n : ℕ} {ty : Ty} → Sees visible n ty → AssigneeHas visible (assignee.Local n) ty
    plain : {n : ℕ} {field : TypedField} {ty : Ty} → slice_get own.fields n ≡ Some field → field.kind ≡ kind.Plain ty → AssigneeHas visible (assignee.Plain n) ty

  -- a map of the own object, and the types of key and value
  pub data MapHas : ℕ → Ty → Ty → Type 0 where
    map : {n : ℕ} {field : TypedField} {key value : Ty} → slice_get own.fields n ≡ Some field → field.kind ≡ kind.Map key value → MapHas n key value

  mutual
    -- an expression and its type
    pub data HasType (visible : Scope) : TypedExpr → Ty → Type 0 where
      number : {value : ℕ} → value < 2 ^ 128 → HasType visible (expr.Number value) Num
      flag : {value : Bool} → HasType visible (expr.Flag value) Flag
      here : HasType visible expr.Here Addr
      name : {at : Place} {ty : Ty} → PlaceHas visible at ty → HasType visible (expr.Name at) ty
      at : {field : ℕ} {key : TypedExpr} {key_ty ty : Ty} → MapHas field key_ty ty → HasType visible key key_ty → HasType visible (expr.At field key) ty
      call : {c : TypedCall} {ty : Ty} → Calls visible c ty → HasType visible (expr.Call c) ty
      not : {inner : TypedExpr} → HasType visible inner Flag → HasType visible (expr.Not inner) Flag
      product : {first second : TypedExpr} {o : Op} {rest : List (Op × TypedExpr)} → HasType visible first Num → All (λ part. IsOfProduct part.0) ((o, second) ∷ rest) → AreNums visible ((o, second) ∷ rest) → HasType visible (expr.Product first ((o, second) ∷ rest)) Num
      sum : {first second : TypedExpr} {o : Op} {rest : List (Op × TypedExpr)} → HasType visible first Num → All (λ part. IsOfSum part.0) ((o, second) ∷ rest) → AreNums visible ((o, second) ∷ rest) → HasType visible (expr.Sum first ((o, second) ∷ rest)) Num
      same : {left right : TypedExpr} {o : Op} {ty : Ty} → IsEquality o → HasType visible left ty → HasType visible right ty → HasType visible (expr.Compare left o right) Flag
      ordered : {left right : TypedExpr} {o : Op} → IsOrder o → HasType visible left Num → HasType visible right Num → HasType visible (expr.Compare left o right) Flag
      and : {first second : TypedExpr} {rest : List TypedExpr} → AreFlags visible (first ∷ second ∷ rest) → HasType visible (expr.And (first ∷ second ∷ rest)) Flag
      or : {first second : TypedExpr} {rest : List TypedExpr} → AreFlags visible (first ∷ second ∷ rest) → HasType visible (expr.Or (first ∷ second ∷ rest)) Flag

    -- a call and the type of its answer
    pub data Calls (visible : Scope) : TypedCall → Ty → Type 0 where
      external : {target : TypedExpr} {name : ℕ} {args : List TypedExpr} {signature : Signature} → HasType visible target Addr → IsMethodName typed name → slice_get typed.signatures name ≡ Some signature → HaveTypes visible args signature.params → Calls visible (called.External target name args) signature.answer
      internal : {name : ℕ} {args : List TypedExpr} {signature : Signature} → IsSome (method_of own name) → slice_get typed.signatures name ≡ Some signature → HaveTypes visible args signature.params → Calls visible (called.Internal name args) signature.answer

    -- arguments and their types, as many of one as of the other
    pub data HaveTypes (visible : Scope) : List TypedExpr → List Ty → Type 0 where
      no_argument : HaveTypes visible [] []
      argument : {first : TypedExpr} {ty : Ty} {args : List TypedExpr} {tys : List Ty} → HasType visible first ty → HaveTypes visible args tys → HaveTypes visible (first ∷ args) (ty ∷ tys)

    -- further parts of a sum or product
    pub data AreNums (visible : Scope) : List (Op × TypedExpr) → Type 0 where
      no_part : AreNums visible []
      part : {o : Op} {first : TypedExpr} {rest : List (Op × TypedExpr)} → HasType visible first Num → AreNums visible rest → AreNums visible ((o, first) ∷ rest)

    -- parts of an && or ||
    pub data AreFlags (visible : Scope) : List TypedExpr → Type 0 where
      no_flag : AreFlags visible []
      flags : {first : TypedExpr} {rest : List TypedExpr} → HasType visible first Flag → AreFlags visible rest → AreFlags visible (first ∷ rest)

  -- Statements of a method that answers such a type. Before and behind each stand the visible locals and the number of the next one.
  module _ (answer : Ty) where
    mutual
      pub data IsStmt : Scope → ℕ → TypedStmt → Scope → ℕ → Type 0 where
        let_local : {visible : Scope} {next : ℕ} {ty : Ty} {value : TypedExpr} → HasType visible value ty → IsStmt visible next (stmt.Let next ty value) ((next, ty) ∷ visible) (suc next)
        try_call : {visible : Scope} {next name : ℕ} {target : TypedExpr} {args : List TypedExpr} {ty : Ty} → Calls visible (called.External target name args) ty → IsStmt visible next (stmt.Try next target name args) ((next, Flag) ∷ visible) (suc next)
        set : {visible : Scope} {next : ℕ} {to : Assignee} {ty : Ty} {value : TypedExpr} → AssigneeHas visible to ty → HasType visible value ty → IsStmt visible next (stmt.Set to value) visible next
        set_at : {visible : Scope} {next field : ℕ} {key value : TypedExpr} {key_ty ty : Ty} → MapHas field key_ty ty → HasType visible key key_ty → HasType visible value ty → IsStmt visible next (stmt.SetAt field key value) visible next
        choice : {visible : Scope} {next between behind : ℕ} {first : TypedExpr × TypedBlock} {arms : List (TypedExpr × TypedBlock)} {last : Option TypedBlock} → AreArms visible next (first ∷ arms) between → IsLast visible between last behind → IsStmt visible next (stmt.If (first ∷ arms) last) visible behind
        while : {visible : Scope} {next behind : ℕ} {cond : TypedExpr} {body : TypedBlock} → HasType visible cond Flag → IsBlock visible next body behind → IsStmt visible next (stmt.While cond body) visible behind
        return : {visible : Scope} {next : ℕ} {value : TypedExpr} → HasType visible value answer → IsStmt visible next (stmt.Return value) visible next
        revert : {visible : Scope} {next : ℕ} {value : TypedExpr} → HasType visible value Num → IsStmt visible next (stmt.Revert value) visible next
        do_call : {visible : Scope} {next : ℕ} {c : TypedCall} {ty : Ty} → Calls visible c ty → IsStmt visible next (stmt.Do c) visible next

      -- statements one after the other, and the number of the next local behind them
      pub data AreStmts : Scope → ℕ → List TypedStmt → ℕ → Type 0 where
        no_stmt : {visible : Scope} {next : ℕ} → AreStmts visible next [] next
        stmts : {visible visible_then : Scope} {next between behind : ℕ} {first : TypedStmt} {rest : List TypedStmt} → IsStmt visible next first visible_then between → AreStmts visible_then between rest behind → AreStmts visible next (first ∷ rest) behind

      -- a block: what it declares is visible to its end
      pub data IsBlock : Scope → ℕ → TypedBlock → ℕ → Type 0 where
        block : {visible : Scope} {next behind : ℕ} {all : List TypedStmt} → AreStmts visible next all behind → IsBlock visible next (roll-TypedBlock (record { stmts = all })) behind

      -- conditions with their blocks
      pub data AreArms : Scope → ℕ → List (TypedExpr × TypedBlock) → ℕ → Type 0 where
        no_arm : {visible : Scope} {next : ℕ} → AreArms visible next [] next
        arm : {visible : Scope} {next between behind : ℕ} {cond : TypedExpr} {body : TypedBlock} {rest : List (TypedExpr × TypedBlock)} → HasType visible cond Flag → IsBlock visible next body between → AreArms visible between rest behind → AreArms visible next ((cond, body) ∷ rest) behind

      -- the last block, where there is one
      pub data IsLast : Scope → ℕ → Option TypedBlock → ℕ → Type 0 where
        no_last : {visible : Scope} {next : ℕ} → IsLast visible next None next
        last : {visible : Scope} {next behind : ℕ} {body : TypedBlock} → IsBlock visible next body behind → IsLast visible next (Some body) behind
