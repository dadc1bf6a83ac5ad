-- Of each form of expression and of each call: its token, its type, its faults and its numbered form.
use Rattle.std.specs.Prelude.{ℕ, ◌==◌, ◌^◌, Bool, true, false, not, if◌then◌else◌, List, [], ◌∷◌, ◌++◌, map, length, Option, Some, None, is_some}
use Rattle.std.specs.List.{flat_map}
use Rattle.ecf_lang.specs.declared.tree.Ty.{Ty}
use Rattle.ecf_lang.specs.declared.tree.Ty.TheVariants.{Num, Flag, Addr}
use Rattle.ecf_lang.specs.declared.tree.Op.{Op}
use Rattle.ecf_lang.specs.declared.tree.Op.TheVariants as op
use Rattle.ecf_lang.specs.declared.tree.Expr.{Expr, Expr-F, fold-Expr}
use Rattle.ecf_lang.specs.declared.tree.CallExpr.{CallExpr, CallExpr-F, fold-CallExpr}
use Rattle.ecf_lang.specs.declared.typed.FieldKind.{FieldKind}
use Rattle.ecf_lang.specs.declared.typed.FieldKind.TheVariants as kind
use Rattle.ecf_lang.specs.declared.typed.Signature.{Signature}
use Rattle.ecf_lang.specs.declared.typed.TypedExpr.{TypedExpr}
use Rattle.ecf_lang.specs.declared.typed.TypedExpr.TheVariants as typed
use Rattle.ecf_lang.specs.declared.typed.TypedCall.{TypedCall}
use Rattle.ecf_lang.specs.declared.typed.TypedCall.TheVariants as called
use Rattle.ecf_lang.specs.declared.typed.Place.TheVariants as place
use Rattle.ecf_faults.specs.declared.What.{What}
use Rattle.ecf_faults.specs.declared.What.TheVariants as what
use Rattle.ecf_faults.specs.declared.Fault.{Fault}
use Rattle.ecf_faults.specs.declared.Referent.{Referent}
use Rattle.ecf_faults.specs.declared.Referent.TheVariants.{Local, Field, Object, Map, Nothing}
use Rattle.ecf_faults.specs.Tables.{Table, declaration_of, number_of, number_below, Surroundings}

-- what there is to say of an expression, a call or an initial value
pub record Report (Form : Type 0) : Type 0 where
  -- the token at which it has its faults of type
  pub place : ℕ
  -- its type; none where the name or method that gives it isn't found
  pub ty : Option Ty
  -- its faults and those of its parts
  pub faults : List Fault
  -- the same with numbers for names; a name that isn't found has the number 0
  pub form : Form

abbrev pub fault : ℕ → What → Fault
fault token kind = record { token = token; what = kind }

-- a fault exactly where a test says so
abbrev pub fault_if : Bool → ℕ → What → List Fault
fault_if true token kind = fault token kind ∷ []
fault_if false token kind = []

-- whether two types differ
abbrev pub differ : Ty → Ty → Bool
differ Num Num = false
differ Flag Flag = false
differ Addr Addr = false
differ a b = true

-- a type other than the one required; where either isn't there, nothing is required
abbrev pub type_faults : Option Ty → Option Ty → ℕ → List Fault
type_faults (Some want) (Some has) token = fault_if (differ want has) token what.WrongType
type_faults want has token = []

-- all faults of a part of which this type is required, or none
abbrev pub faults_for : {Form : Type 0} → Option Ty → Report Form → List Fault
faults_for want e = e.faults ++ type_faults want e.ty e.place

-- ---- what a name without an index stands for

-- a visible local, else a plain field, else an object; a map of the own object is told apart from nothing
abbrev pub referent_of : Option (ℕ × Ty) → Option (ℕ × FieldKind) → Option (ℕ × ℕ) → Referent
referent_of (Some (n, ty)) own object = Local n ty
referent_of None (Some (n, kind.Plain ty)) object = Field (number_below (2 ^ 8) n) ty
referent_of None (Some (n, kind.Map key value)) (Some (object, token)) = Object (number_below (2 ^ 8) object)
referent_of None (Some (n, kind.Map key value)) None = Map
referent_of None None (Some (object, token)) = Object (number_below (2 ^ 8) object)
referent_of None None None = Nothing

-- in an expression: its type
abbrev pub referent_type : Referent → Option Ty
referent_type (Local n ty) = Some ty
referent_type (Field n ty) = Some ty
referent_type (Object n) = Some Addr
referent_type Map = None
referent_type Nothing = None

-- in an expression: its faults
abbrev pub referent_faults : ℕ → Referent → List Fault
referent_faults at Map = fault at what.Misused ∷ []
referent_faults at Nothing = fault at what.UnknownName ∷ []
referent_faults at _ = []

-- in an expression: its numbered form
abbrev pub referent_form : Referent → TypedExpr
referent_form (Local n ty) = typed.Name (place.Local n)
referent_form (Field n ty) = typed.Name (place.Plain n)
referent_form (Object n) = typed.Name (place.Object n)
referent_form Map = typed.Name (place.Object 0)
referent_form Nothing = typed.Name (place.Object 0)

-- ---- what a name with an index stands for: a field or map of the own object

abbrev pub map_faults : ℕ → Option (ℕ × FieldKind) → List Fault
map_faults at (Some (n, kind.Map key value)) = []
map_faults at (Some (n, kind.Plain ty)) = fault at what.Misused ∷ []
map_faults at None = fault at what.UnknownName ∷ []

abbrev pub key_type : Option (ℕ × FieldKind) → Option Ty
key_type (Some (n, kind.Map key value)) = Some key
key_type _ = None

abbrev pub value_type : Option (ℕ × FieldKind) → Option Ty
value_type (Some (n, kind.Map key value)) = Some value
value_type _ = None

abbrev pub map_number : Option (ℕ × FieldKind) → ℕ
map_number own = number_below (2 ^ 8) (number_of own)

-- ---- comparisons

-- what is required of the left side
abbrev pub left_side_type : Op → Option Ty
left_side_type op.Eq = None
left_side_type op.Ne = None
left_side_type _ = Some Num

-- what is required of the right side, from the type of the left
abbrev pub right_side_type : Op → Option Ty → Option Ty
right_side_type op.Eq left = left
right_side_type op.Ne left = left
right_side_type _ left = Some Num

-- ---- calls, by the number and signature of the method, if it is found

abbrev pub method_number : Option (ℕ × Signature) → ℕ
method_number method = number_below (2 ^ 16) (number_of method)

abbrev pub answer_type : Option (ℕ × Signature) → Option Ty
answer_type None = None
answer_type (Some (n, signature)) = Some signature.answer

-- a method that isn't found, or one that takes another number of arguments
abbrev pub arity_faults : ℕ → Option (ℕ × Signature) → ℕ → List Fault
arity_faults name_at None count = fault name_at what.UnknownMethod ∷ []
arity_faults name_at (Some (n, signature)) count = fault_if (not (count == length signature.params)) name_at what.WrongArity

-- the types required of arguments: those of the parameters, where there are as many
abbrev pub parameter_types : Option (ℕ × Signature) → ℕ → List Ty
parameter_types None count = []
parameter_types (Some (n, signature)) count = if count == length signature.params then signature.params else []

-- arguments, each with the type required of it, or with none
abbrev pub argument_faults : List Ty → List (Report TypedExpr) → List Fault
argument_faults tys [] = []
argument_faults [] (arg ∷ args) = faults_for None arg ++ argument_faults [] args
argument_faults (ty ∷ tys) (arg ∷ args) = faults_for (Some ty) arg ++ argument_faults tys args

abbrev pub call_faults : ℕ → Option (ℕ × Signature) → List (Report TypedExpr) → List Fault
call_faults name_at method args = arity_faults name_at method (length args) ++ argument_faults (parameter_types method (length args)) args

-- the token of the first of some parts
abbrev pub first_place : List (Report TypedExpr) → ℕ
first_place [] = 0
first_place (part ∷ parts) = part.place

module _ (around : Surroundings) where
  -- the method that `self.name` calls
  abbrev pub own_method : List ℕ → Option (ℕ × Signature)
  own_method name = if is_some (declaration_of around.methods name) then declaration_of around.signatures name else None

  abbrev pub call_step : CallExpr-F (Report TypedCall) (Report TypedExpr) → Report TypedCall
  call_step (CallExpr-F.External at target name_at name args) = record {
    place = at;
    ty = answer_type (declaration_of around.signatures name);
    faults = faults_for (Some Addr) target ++ call_faults name_at (declaration_of around.signatures name) args;
    form = called.External target.form (method_number (declaration_of around.signatures name)) (map (λ arg. arg.form) args);
  }
  call_step (CallExpr-F.Internal at name_at name args) = record {
    place = at;
    ty = answer_type (own_method name);
    faults = call_faults name_at (own_method name) args;
    form = called.Internal (method_number (own_method name)) (map (λ arg. arg.form) args);
  }

  module _ (visible : Table (ℕ × Ty)) where
    -- what a name without an index stands for here
    abbrev pub referent : List ℕ → Referent
    referent name = referent_of (declaration_of visible name) (declaration_of around.own name) (declaration_of around.objects name)

    -- the token of an expression; one without has that of its first part
    abbrev pub place_of : Expr-F (Report TypedCall) (Report TypedExpr) → ℕ
    place_of (Expr-F.Number at value) = at
    place_of (Expr-F.Flag at value) = at
    place_of (Expr-F.Here at) = at
    place_of (Expr-F.Name at name) = at
    place_of (Expr-F.At at name key) = at
    place_of (Expr-F.Call call) = call.place
    place_of (Expr-F.Not at inner) = at
    place_of (Expr-F.Product first rest) = first.place
    place_of (Expr-F.Sum first rest) = first.place
    place_of (Expr-F.Compare left op right) = left.place
    place_of (Expr-F.And parts) = first_place parts
    place_of (Expr-F.Or parts) = first_place parts

    -- the type of an expression, by its form alone
    abbrev pub type_of : Expr-F (Report TypedCall) (Report TypedExpr) → Option Ty
    type_of (Expr-F.Number at value) = Some Num
    type_of (Expr-F.Flag at value) = Some Flag
    type_of (Expr-F.Here at) = Some Addr
    type_of (Expr-F.Name at name) = referent_type (referent name)
    type_of (Expr-F.At at name key) = value_type (declaration_of around.own name)
    type_of (Expr-F.Call call) = call.ty
    type_of (Expr-F.Not at inner) = Some Flag
    type_of (Expr-F.Product first rest) = Some Num
    type_of (Expr-F.Sum first rest) = Some Num
    type_of (Expr-F.Compare left op right) = Some Flag
    type_of (Expr-F.And parts) = Some Flag
    type_of (Expr-F.Or parts) = Some Flag

    -- the faults of an expression and of its parts, with what is required of these
    abbrev pub faults_of : Expr-F (Report TypedCall) (Report TypedExpr) → List Fault
    faults_of (Expr-F.Number at value) = []
    faults_of (Expr-F.Flag at value) = []
    faults_of (Expr-F.Here at) = []
    faults_of (Expr-F.Name at name) = referent_faults at (referent name)
    faults_of (Expr-F.At at name key) = map_faults at (declaration_of around.own name) ++ faults_for (key_type (declaration_of around.own name)) key
    faults_of (Expr-F.Call call) = call.faults
    faults_of (Expr-F.Not at inner) = faults_for (Some Flag) inner
    faults_of (Expr-F.Product first rest) = faults_for (Some Num) first ++ flat_map (λ part. faults_for (Some Num) part.1) rest
    faults_of (Expr-F.Sum first rest) = faults_for (Some Num) first ++ flat_map (λ part. faults_for (Some Num) part.1) rest
    faults_of (Expr-F.Compare left op right) = faults_for (left_side_type op) left ++ faults_for (right_side_type op left.ty) right
    faults_of (Expr-F.And parts) = flat_map (faults_for (Some Flag)) parts
    faults_of (Expr-F.Or parts) = flat_map (faults_for (Some Flag)) parts

    -- the numbered form of an expression
    abbrev pub form_of : Expr-F (Report TypedCall) (Report TypedExpr) → TypedExpr
    form_of (Expr-F.Number at value) = typed.Number value
    form_of (Expr-F.Flag at value) = typed.Flag value
    form_of (Expr-F.Here at) = typed.Here
    form_of (Expr-F.Name at name) = referent_form (referent name)
    form_of (Expr-F.At at name key) = typed.At (map_number (declaration_of around.own name)) key.form
    form_of (Expr-F.Call call) = typed.Call call.form
    form_of (Expr-F.Not at inner) = typed.Not inner.form
    form_of (Expr-F.Product first rest) = typed.Product first.form (map (λ part. (part.0, part.1.form)) rest)
    form_of (Expr-F.Sum first rest) = typed.Sum first.form (map (λ part. (part.0, part.1.form)) rest)
    form_of (Expr-F.Compare left op right) = typed.Compare left.form op right.form
    form_of (Expr-F.And parts) = typed.And (map (λ part. part.form) parts)
    form_of (Expr-F.Or parts) = typed.Or (map (λ part. part.form) parts)

    abbrev pub expr_step : Expr-F (Report TypedCall) (Report TypedExpr) → Report TypedExpr
    expr_step e = record { place = place_of e; ty = type_of e; faults = faults_of e; form = form_of e }

    unfoldable pub report_of : Expr → Report TypedExpr
    report_of = fold-Expr (Report TypedCall) (Report TypedExpr) call_step expr_step

    unfoldable pub call_report_of : CallExpr → Report TypedCall
    call_report_of = fold-CallExpr (Report TypedCall) (Report TypedExpr) call_step expr_step
