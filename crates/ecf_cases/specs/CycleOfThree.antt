-- Three invocations of one object, each before the next and the last before the first, but no two in a cycle.
use Rattle.std.specs.Prelude.{◌≡◌, [], ◌∷◌, List, Some}
use Rattle.ecf_cases.specs.Outcomes.{NoSwapsBringTogether}
use Rattle.ecf_cases.specs.Words.{contract, signature, object, num_field, method, num, field, object_name, set_field, returns, call_only, transaction, tx_call, invocation}
use Rattle.ecf_lang.specs.Meaning.{run, RunResult}
use Rattle.ecf_lang.specs.declared.cell.Cell.{Cell}
use Rattle.ecf_lang.specs.declared.run.Outcome.TheVariants.{Answer}
use Rattle.ecf_lang.specs.declared.tree.Ty.TheVariants.{Num}
use Rattle.ecf_lang.specs.declared.tx.Tx.{Tx}
use Rattle.ecf_lang.specs.declared.typed.Typed.{Typed}
use Rattle.ecf_lang.specs.declared.typed.TypedStmt.{TypedStmt}
use Rattle.ecf_verdicts.specs.Receipts.{receipt_on, next_store}
use Rattle.ecf_verdicts.specs.Verdicts.{verdict, Vetoed}
use Rattle.ecf_verdicts.specs.Words.{cell, read_step, write_step}
use Rattle.ecf_lang.specs.declared.receipt.Receipt.TheVariants as receipt

-- object A {
--   num x;
--   num y;
--   num z;
--   method go(): num { x = 1; call B.first(); call B.second(); return z; }
--   method one(): num { y = x; return 0; }
--   method two(): num { z = y; return 0; }
-- }
-- object B {
--   method first(): num { call A.one(); return 0; }
--   method second(): num { call A.two(); return 0; }
-- }

-- go of A
abbrev pub cycle_of_three_go : List TypedStmt
cycle_of_three_go =
    set_field 0 (num 1)
    ∷ call_only (object_name 1) 3 []
    ∷ call_only (object_name 1) 4 []
    ∷ returns (field 2)
    ∷ []

-- one of A
abbrev pub cycle_of_three_one : List TypedStmt
cycle_of_three_one = set_field 1 (field 0) ∷ returns (num 0) ∷ []

-- two of A
abbrev pub cycle_of_three_two : List TypedStmt
cycle_of_three_two = set_field 2 (field 1) ∷ returns (num 0) ∷ []

-- first of B
abbrev pub cycle_of_three_first : List TypedStmt
cycle_of_three_first = call_only (object_name 0) 1 [] ∷ returns (num 0) ∷ []

-- second of B
abbrev pub cycle_of_three_second : List TypedStmt
cycle_of_three_second = call_only (object_name 0) 2 [] ∷ returns (num 0) ∷ []

-- the contract
abbrev pub cycle_of_three : Typed
cycle_of_three = contract
    (signature [] Num ∷ signature [] Num ∷ signature [] Num ∷ signature [] Num ∷ signature [] Num ∷ [])
    (object (num_field ∷ num_field ∷ num_field ∷ []) (
    method 0 0 cycle_of_three_go
    ∷ method 1 0 cycle_of_three_one
    ∷ method 2 0 cycle_of_three_two ∷ [])
    ∷ object [] (method 3 0 cycle_of_three_first ∷ method 4 0 cycle_of_three_second ∷ []) ∷ [])

-- x of A
abbrev pub x : Cell
x = cell 0 0 0

-- A go 200
abbrev pub go : Tx
go = transaction 200 (tx_call 0 0 [] ∷ [])

-- y of A
abbrev pub y : Cell
y = cell 0 1 0

-- z of A
abbrev pub z : Cell
z = cell 0 2 0

-- three invocations of A, each with a step between those of another
abbrev pub go_result : RunResult
go_result = record {
  outcome = Answer 1;
  fuel = 86;
  store = (x, 1) ∷ (y, 1) ∷ (z, 1) ∷ [];
  steps = write_step 0 x 1
      ∷ read_step 2 x 1 ∷ write_step 2 y 1
      ∷ read_step 4 y 1 ∷ write_step 4 z 1
      ∷ read_step 0 z 1 ∷ [];
  invocations = invocation 0 0 [] (Some 1) (0 ∷ 0 ∷ []) 36
      ∷ invocation 1 3 [] (Some 0) (0 ∷ []) 15
      ∷ invocation 0 1 [] (Some 0) [] 10
      ∷ invocation 1 4 [] (Some 0) (0 ∷ []) 15
      ∷ invocation 0 2 [] (Some 0) [] 10 ∷ [];
  reads = [];
  writes = (x, 1) ∷ (y, 1) ∷ (z, 1) ∷ [];
}

abbrev pub GoesAround : Type 0
GoesAround = run cycle_of_three [] go ≡ go_result

-- the verdict on its steps
abbrev pub StepsVetoed : Type 0
StepsVetoed = verdict go_result.steps ≡ Vetoed 0 6 (0 ∷ 2 ∷ 4 ∷ [])

-- the receipt
abbrev pub IsVetoed : Type 0
IsVetoed = receipt_on cycle_of_three [] go ≡ receipt.Vetoed 0 6 (0 ∷ 2 ∷ 4 ∷ []) 86

-- the store stays
abbrev pub StoreStays : Type 0
StoreStays = next_store cycle_of_three [] go ≡ []

-- no swaps bring the steps of each invocation together
abbrev pub NoSwapsHelp : Type 0
NoSwapsHelp = NoSwapsBringTogether cycle_of_three [] go 0
