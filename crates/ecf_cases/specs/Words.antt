-- Small words for typed contracts, and for what their runs leave.
use Rattle.std.specs.Prelude.{ℕ, Bool, false, List, [], ◌∷◌, map, Option, Some, None}
use Rattle.ecf_lang.specs.declared.tree.Op.{Op}
use Rattle.ecf_lang.specs.declared.tree.Op.TheVariants.{Add, Sub, Mul, Div, Rem}
use Rattle.ecf_lang.specs.declared.tree.Ty.{Ty}
use Rattle.ecf_lang.specs.declared.tree.Ty.TheVariants.{Num, Flag, Addr}
use Rattle.ecf_lang.specs.declared.typed.FieldKind.TheVariants as kind
use Rattle.ecf_lang.specs.declared.typed.Place.TheVariants as place
use Rattle.ecf_lang.specs.declared.typed.Assignee.TheVariants as assignee
use Rattle.ecf_lang.specs.declared.typed.Typed.{Typed}
use Rattle.ecf_lang.specs.declared.typed.Signature.{Signature}
use Rattle.ecf_lang.specs.declared.typed.TypedObject.{TypedObject}
use Rattle.ecf_lang.specs.declared.typed.TypedField.{TypedField}
use Rattle.ecf_lang.specs.declared.typed.TypedMethod.{TypedMethod}
use Rattle.ecf_lang.specs.declared.typed.TypedExpr.{TypedExpr}
use Rattle.ecf_lang.specs.declared.typed.TypedExpr.TheVariants as expr
use Rattle.ecf_lang.specs.declared.typed.TypedCall.TheVariants as call
use Rattle.ecf_lang.specs.declared.typed.TypedStmt.{TypedStmt}
use Rattle.ecf_lang.specs.declared.typed.TypedStmt.TheVariants as stmt
use Rattle.ecf_lang.specs.declared.typed.TypedBlock.{TypedBlock, roll-TypedBlock}
use Rattle.ecf_lang.specs.declared.tx.Tx.{Tx}
use Rattle.ecf_lang.specs.declared.tx.TxCall.{TxCall}
use Rattle.ecf_lang.specs.declared.run.Invocation.{Invocation}

-- a contract, from the signatures of its method names and its objects; nobody's name is spelled
abbrev pub contract : List Signature → List TypedObject → Typed
contract signatures objects = record { objects = objects; names = map (λ s. []) signatures; signatures = signatures }

-- a signature
abbrev pub signature : List Ty → Ty → Signature
signature params answer = record { params = params; answer = answer }

-- an object
abbrev pub object : List TypedField → List TypedMethod → TypedObject
object fields methods = record { name = []; fields = fields; methods = methods }

-- a plain field of numbers
abbrev pub num_field : TypedField
num_field = record { name = []; kind = kind.Plain Num; first = [] }

-- a plain field that is a flag
abbrev pub flag_field : TypedField
flag_field = record { name = []; kind = kind.Plain Flag; first = [] }

-- a plain field that is an object's number
abbrev pub addr_field : TypedField
addr_field = record { name = []; kind = kind.Plain Addr; first = [] }

-- a map, by the types of key and value
abbrev pub map_field : Ty → Ty → TypedField
map_field key value = record { name = []; kind = kind.Map key value; first = [] }

-- a field with initial pairs of key and value; a plain field's key is 0
abbrev pub with_first : List (ℕ × ℕ) → TypedField → TypedField
with_first first one = record one { first = first }

-- statements between braces
abbrev pub block : List TypedStmt → TypedBlock
block stmts = roll-TypedBlock (record { stmts = stmts })

-- a method, by the number of its name, with so many locals
abbrev pub method : ℕ → ℕ → List TypedStmt → TypedMethod
method name locals stmts = record { name = name; locals = locals; body = block stmts }

-- a number
abbrev pub num : ℕ → TypedExpr
num n = expr.Number n

-- `true` or `false`
abbrev pub flag : Bool → TypedExpr
flag b = expr.Flag b

-- the own object
abbrev pub here : TypedExpr
here = expr.Here

-- a local
abbrev pub local : ℕ → TypedExpr
local n = expr.Name (place.Local n)

-- a plain field of the own object
abbrev pub field : ℕ → TypedExpr
field n = expr.Name (place.Plain n)

-- an object by its name
abbrev pub object_name : ℕ → TypedExpr
object_name n = expr.Name (place.Object n)

-- an element of a map
abbrev pub at : ℕ → TypedExpr → TypedExpr
at map_number key = expr.At map_number key

-- a `!`
abbrev pub no : TypedExpr → TypedExpr
no e = expr.Not e

-- a sum, from its first part and its further ones
abbrev pub sum : TypedExpr → List (Op × TypedExpr) → TypedExpr
sum first rest = expr.Sum first rest

-- a product, from its first part and its further ones
abbrev pub product : TypedExpr → List (Op × TypedExpr) → TypedExpr
product first rest = expr.Product first rest

abbrev pub plus : TypedExpr → TypedExpr → TypedExpr
plus a b = sum a ((Add, b) ∷ [])

abbrev pub minus : TypedExpr → TypedExpr → TypedExpr
minus a b = sum a ((Sub, b) ∷ [])

abbrev pub times : TypedExpr → TypedExpr → TypedExpr
times a b = product a ((Mul, b) ∷ [])

abbrev pub over : TypedExpr → TypedExpr → TypedExpr
over a b = product a ((Div, b) ∷ [])

abbrev pub modulo : TypedExpr → TypedExpr → TypedExpr
modulo a b = product a ((Rem, b) ∷ [])

-- a comparison
abbrev pub compare : TypedExpr → Op → TypedExpr → TypedExpr
compare left op right = expr.Compare left op right

-- parts with `&&` between them
abbrev pub all_of : List TypedExpr → TypedExpr
all_of parts = expr.And parts

-- parts with `||` between them
abbrev pub any_of : List TypedExpr → TypedExpr
any_of parts = expr.Or parts

-- the answer of another object's method: the object, the method's name and the arguments
abbrev pub external_call : TypedExpr → ℕ → List TypedExpr → TypedExpr
external_call target name args = expr.Call (call.External target name args)

-- the answer of a method of the own object
abbrev pub internal_call : ℕ → List TypedExpr → TypedExpr
internal_call name args = expr.Call (call.Internal name args)

-- a further local of numbers
abbrev pub let_num : ℕ → TypedExpr → TypedStmt
let_num n value = stmt.Let n Num value

-- a local that says whether a call answered
abbrev pub let_try : ℕ → TypedExpr → ℕ → List TypedExpr → TypedStmt
let_try n target name args = stmt.Try n target name args

-- an assignment to a local
abbrev pub set_local : ℕ → TypedExpr → TypedStmt
set_local n value = stmt.Set (assignee.Local n) value

-- an assignment to a plain field
abbrev pub set_field : ℕ → TypedExpr → TypedStmt
set_field n value = stmt.Set (assignee.Plain n) value

-- an assignment to an element of a map
abbrev pub set_at : ℕ → TypedExpr → TypedExpr → TypedStmt
set_at map_number key value = stmt.SetAt map_number key value

-- an `if` with its arms, and with its `else` if it has one
abbrev pub choose : List (TypedExpr × TypedBlock) → Option TypedBlock → TypedStmt
choose arms last = stmt.If arms last

-- an arm of an `if`
abbrev pub arm : TypedExpr → List TypedStmt → TypedExpr × TypedBlock
arm cond stmts = (cond, block stmts)

-- the `else` of an `if`
abbrev pub otherwise : List TypedStmt → Option TypedBlock
otherwise stmts = Some (block stmts)

-- an `if` of one arm
abbrev pub when : TypedExpr → List TypedStmt → TypedStmt
when cond stmts = choose (arm cond stmts ∷ []) None

abbrev pub while : TypedExpr → List TypedStmt → TypedStmt
while cond stmts = stmt.While cond (block stmts)

abbrev pub returns : TypedExpr → TypedStmt
returns value = stmt.Return value

abbrev pub reverts : TypedExpr → TypedStmt
reverts value = stmt.Revert value

-- a call of another object's method, whose answer is dropped
abbrev pub call_only : TypedExpr → ℕ → List TypedExpr → TypedStmt
call_only target name args = stmt.Do (call.External target name args)

-- a call of a method of the own object, whose answer is dropped
abbrev pub self_only : ℕ → List TypedExpr → TypedStmt
self_only name args = stmt.Do (call.Internal name args)

-- a transaction
abbrev pub transaction : ℕ → List TxCall → Tx
transaction fuel calls = record { submitter = 1; fuel = fuel; calls = calls }

-- a call of a transaction
abbrev pub tx_call : ℕ → ℕ → List ℕ → TxCall
tx_call object method args = record { object = object; method = method; args = args }

-- an invocation: the called method, its arguments, its answer, what its calls answered, and the fuel charged in it
abbrev pub invocation : ℕ → ℕ → List ℕ → Option ℕ → List ℕ → ℕ → Invocation
invocation object method args answer answers own_fuel = record {
  object = object;
  method = method;
  args = args;
  answer = answer;
  answers = answers;
  own_fuel = own_fuel;
  undone = false;
}
