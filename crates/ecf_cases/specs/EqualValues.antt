-- A callback writes what is there already: values don't matter.
use Rattle.std.specs.Prelude.{◌≡◌, [], ◌∷◌, List, Some}
use Rattle.ecf_cases.specs.Outcomes.{NoSwapsBringTogether}
use Rattle.ecf_cases.specs.Words.{contract, signature, object, num_field, method, num, object_name, set_field, returns, call_only, transaction, tx_call, invocation}
use Rattle.ecf_lang.specs.Meaning.{run, RunResult}
use Rattle.ecf_lang.specs.declared.cell.Cell.{Cell}
use Rattle.ecf_lang.specs.declared.run.Outcome.TheVariants.{Answer}
use Rattle.ecf_lang.specs.declared.tree.Ty.TheVariants.{Num}
use Rattle.ecf_lang.specs.declared.tx.Tx.{Tx}
use Rattle.ecf_lang.specs.declared.typed.Typed.{Typed}
use Rattle.ecf_lang.specs.declared.typed.TypedStmt.{TypedStmt}
use Rattle.ecf_verdicts.specs.Receipts.{receipt_on, next_store}
use Rattle.ecf_verdicts.specs.Verdicts.{verdict, Vetoed}
use Rattle.ecf_verdicts.specs.Words.{cell, write_step}
use Rattle.ecf_lang.specs.declared.receipt.Receipt.TheVariants as receipt

-- object A {
--   num x;
--   method go(): num { x = 1; call B.back(); x = 1; return 0; }
--   method set(): num { x = 1; return 0; }
-- }
-- object B {
--   method back(): num { call A.set(); return 0; }
-- }

-- go of A
abbrev pub equal_values_go : List TypedStmt
equal_values_go =
    set_field 0 (num 1)
    ∷ call_only (object_name 1) 2 []
    ∷ set_field 0 (num 1)
    ∷ returns (num 0)
    ∷ []

-- set of A
abbrev pub equal_values_set : List TypedStmt
equal_values_set = set_field 0 (num 1) ∷ returns (num 0) ∷ []

-- back of B
abbrev pub equal_values_back : List TypedStmt
equal_values_back = call_only (object_name 0) 1 [] ∷ returns (num 0) ∷ []

-- the contract
abbrev pub equal_values : Typed
equal_values = contract
    (signature [] Num ∷ signature [] Num ∷ signature [] Num ∷ [])
    (object (num_field ∷ []) (method 0 0 equal_values_go ∷ method 1 0 equal_values_set ∷ [])
    ∷ object [] (method 2 0 equal_values_back ∷ []) ∷ [])

-- x of A
abbrev pub x : Cell
x = cell 0 0 0

-- A go 200
abbrev pub go : Tx
go = transaction 200 (tx_call 0 0 [] ∷ [])

-- a write of an equal number is a step like any other
abbrev pub go_result : RunResult
go_result = record {
  outcome = Answer 0;
  fuel = 50;
  store = (x, 1) ∷ [];
  steps = write_step 0 x 1
      ∷ write_step 2 x 1
      ∷ write_step 0 x 1 ∷ [];
  invocations = invocation 0 0 [] (Some 0) (0 ∷ []) 27
      ∷ invocation 1 2 [] (Some 0) (0 ∷ []) 15
      ∷ invocation 0 1 [] (Some 0) [] 8 ∷ [];
  reads = [];
  writes = (x, 1) ∷ [];
}

abbrev pub WritesTheSame : Type 0
WritesTheSame = run equal_values [] go ≡ go_result

-- the verdict on its steps
abbrev pub StepsVetoed : Type 0
StepsVetoed = verdict go_result.steps ≡ Vetoed 0 3 (0 ∷ 2 ∷ [])

-- the receipt
abbrev pub IsVetoed : Type 0
IsVetoed = receipt_on equal_values [] go ≡ receipt.Vetoed 0 3 (0 ∷ 2 ∷ []) 50

-- the store stays
abbrev pub StoreStays : Type 0
StoreStays = next_store equal_values [] go ≡ []

-- no swaps bring the steps of each invocation together
abbrev pub NoSwapsHelp : Type 0
NoSwapsHelp = NoSwapsBringTogether equal_values [] go 0
