-- Streams worked out: what they say, by computation.
use Rattle.std.specs.Prelude.{◌≡◌, ℕ, Bool, true, false, List, [], ◌∷◌, codes, Option, Some, None}
use Rattle.ecf_lang.specs.declared.limits.TheConstants.{MAX_TRANSACTIONS}
use Rattle.ecf_lang.specs.declared.receipt.Stop.{Stop}
use Rattle.ecf_lang.specs.declared.receipt.StopCause.{StopCause}
use Rattle.ecf_lang.specs.declared.receipt.StopCause.TheVariants.{Form, Method, Fuel, Arity, Arg, Many, Read}
use Rattle.ecf_lang.specs.declared.tree.Ty.{Ty}
use Rattle.ecf_lang.specs.declared.tree.Ty.TheVariants.{Num, Flag, Addr}
use Rattle.ecf_lang.specs.declared.tx.Tx.{Tx}
use Rattle.ecf_lang.specs.declared.tx.TxCall.{TxCall}
use Rattle.ecf_lang.specs.declared.typed.Signature.{Signature}
use Rattle.ecf_lang.specs.declared.typed.Typed.{Typed}
use Rattle.ecf_lang.specs.declared.typed.TypedBlock.{roll-TypedBlock}
use Rattle.ecf_lang.specs.declared.typed.TypedObject.{TypedObject}
use Rattle.ecf_lines.specs.Stream.{Off, StreamSaid, stream_said}

-- a signature that answers a number
abbrev pub takes : List Ty → Signature
takes params = record { params = params; answer = Num }

-- an object of that name, with one method
abbrev pub object : List ℕ → ℕ → TypedObject
object name method = record {
  name = name;
  fields = [];
  methods = record { name = method; locals = 3; body = roll-TypedBlock (record { stmts = [] }) } ∷ [];
}

-- object Counter { method bump(): num { } }
-- object Bank { method put(n: num, f: flag, a: addr): num { } }
abbrev pub contract : Typed
contract = record {
  objects = object (codes "Counter") 0 ∷ object (codes "Bank") 1 ∷ [];
  names = codes "bump" ∷ codes "put" ∷ [];
  signatures = takes [] ∷ takes (Num ∷ Flag ∷ Addr ∷ []) ∷ [];
}

-- a call of bump
abbrev pub bump_call : TxCall
bump_call = record { object = 0; method = 0; args = [] }

-- a submitter's transaction of calls, with a fuel limit of 100
abbrev pub asks : ℕ → List TxCall → Tx
asks submitter calls = record { submitter = submitter; fuel = 100; calls = calls }

-- a submitter's transaction `Counter bump 100`
abbrev pub bump : ℕ → Tx
bump submitter = asks submitter (bump_call ∷ [])

-- transactions, and a stop at a line
abbrev pub stopped : List Tx → ℕ → StopCause → StreamSaid
stopped txs line cause = record { txs = txs; offs = []; stop = Some (record { line = line; cause = cause }) }

-- transactions up to the end
abbrev pub whole : List Tx → StreamSaid
whole txs = record { txs = txs; offs = []; stop = None }

-- a text that is read to its end, without control lines
abbrev pub said_by : List ℕ → StreamSaid
said_by text = stream_said contract false 0 text false

-- CR LF, a note, and a last line without LF
abbrev pub NoteBetween : Type 0
NoteBetween = said_by (codes "1 Counter bump 100\r\n# note\n2 Counter bump 100") ≡ whole (bump 1 ∷ bump 2 ∷ [])

-- the first line that is wrong ends the reading
abbrev pub StopsAtMethod : Type 0
StopsAtMethod = said_by (codes "1 Counter bump 100\n\n1 Counter jump 100\n1 Counter bump 100\n") ≡ stopped (bump 1 ∷ []) 3 Method

-- a read failed in the third line
abbrev pub StopsAtRead : Type 0
StopsAtRead = stream_said contract false 0 (codes "1 Counter bump 100\n2 Counter bump 100\n1 Cou") true ≡ stopped (bump 1 ∷ bump 2 ∷ []) 3 Read

-- several calls in a line, with arguments by their types
abbrev pub SeveralCalls : Type 0
SeveralCalls = said_by (codes "7 Counter bump 100 ; Bank put 5 true Bank ; Counter bump\n")
    ≡ whole (asks 7 (bump_call ∷ record { object = 1; method = 1; args = 5 ∷ 1 ∷ 1 ∷ [] } ∷ bump_call ∷ []) ∷ [])

-- a `;` without a call behind it, and a ninth call
abbrev pub StopsAtForm : Type 0
StopsAtForm = (said_by (codes "1 Counter bump 100 ;") ≡ stopped [] 1 Form)
    × (said_by (codes "1 Counter jump 0 ; A b ; A b ; A b ; A b ; A b ; A b ; A b ; A b") ≡ stopped [] 1 Form)

-- the fuel comes before the arguments, and the first call before the second
abbrev pub FirstCause : Type 0
FirstCause = (said_by (codes "1 Counter bump 0 1") ≡ stopped [] 1 Fuel)
    × (said_by (codes "1 Counter bump 100 1 ; Counter jump") ≡ stopped [] 1 Arity)
    × (said_by (codes "1 Counter bump 100 ; Bank put 5 1 Bank") ≡ stopped [] 1 Arg)

-- a control line takes out a watch after so many transactions; where none are read it is no transaction
abbrev pub TakesOutWatch : Type 0
TakesOutWatch =
    (stream_said contract true 5 (codes "1 Counter bump 100\n@off 07\n2 Counter bump 100\n") false
    ≡ record { txs = bump 1 ∷ bump 2 ∷ []; offs = record { watch = 7; after = 6 } ∷ []; stop = None })
    × (said_by (codes "1 Counter bump 100\n@off 07\n") ≡ stopped (bump 1 ∷ []) 2 Form)
    × (stream_said contract true 0 (codes "@off 123\n") false ≡ stopped [] 1 Form)

-- after as many transactions as may be, notes and control lines are still read
abbrev pub StopsAtMany : Type 0
StopsAtMany = stream_said contract true MAX_TRANSACTIONS (codes "# note\n@off 0\n@off\n") false
    ≡ record { txs = []; offs = record { watch = 0; after = MAX_TRANSACTIONS } ∷ []; stop = Some (record { line = 3; cause = Many }) }
