-- A call of another object, which answers.
use Rattle.std.specs.Prelude.{◌≡◌, [], ◌∷◌, List, Some}
use Rattle.ecf_cases.specs.Words.{contract, signature, object, num_field, method, num, local, field, object_name, plus, times, external_call, set_field, returns, transaction, tx_call, invocation}
use Rattle.ecf_lang.specs.Meaning.{run, RunResult}
use Rattle.ecf_lang.specs.declared.cell.Cell.{Cell}
use Rattle.ecf_lang.specs.declared.run.Outcome.TheVariants.{Answer}
use Rattle.ecf_lang.specs.declared.tree.Ty.TheVariants.{Num}
use Rattle.ecf_lang.specs.declared.tx.Tx.{Tx}
use Rattle.ecf_lang.specs.declared.typed.Typed.{Typed}
use Rattle.ecf_lang.specs.declared.typed.TypedStmt.{TypedStmt}
use Rattle.ecf_verdicts.specs.Words.{cell, read_step, write_step}

-- object A {
--   num x;
--   method go(): num { x = call B.two(3); return x; }
-- }
-- object B {
--   num y;
--   method two(n: num): num { y = y + n; return y * 2; }
-- }

-- go of A
abbrev pub other_object_go : List TypedStmt
other_object_go = set_field 0 (external_call (object_name 1) 1 (num 3 ∷ [])) ∷ returns (field 0) ∷ []

-- two of B
abbrev pub other_object_two : List TypedStmt
other_object_two = set_field 0 (plus (field 0) (local 0)) ∷ returns (times (field 0) (num 2)) ∷ []

-- the contract
abbrev pub other_object : Typed
other_object = contract
    (signature [] Num ∷ signature (Num ∷ []) Num ∷ [])
    (object (num_field ∷ []) (method 0 0 other_object_go ∷ [])
    ∷ object (num_field ∷ []) (method 1 1 other_object_two ∷ []) ∷ [])

-- x of A
abbrev pub x : Cell
x = cell 0 0 0

-- y of B
abbrev pub y : Cell
y = cell 1 0 0

-- A go 100
abbrev pub go : Tx
go = transaction 100 (tx_call 0 0 [] ∷ [])

-- the call is charged to the caller, the body to the callee; the answer is kept with the caller
abbrev pub go_result : RunResult
go_result = record {
  outcome = Answer 6;
  fuel = 38;
  store = (x, 6) ∷ (y, 3) ∷ [];
  steps = read_step 1 y 0 ∷ write_step 1 y 3 ∷ read_step 1 y 3
      ∷ write_step 0 x 6 ∷ read_step 0 x 6 ∷ [];
  invocations = invocation 0 0 [] (Some 6) (6 ∷ []) 22
      ∷ invocation 1 1 (3 ∷ []) (Some 6) [] 16 ∷ [];
  reads = (y, 0) ∷ [];
  writes = (x, 6) ∷ (y, 3) ∷ [];
}

abbrev pub CallsAnother : Type 0
CallsAnother = run other_object [] go ≡ go_result
