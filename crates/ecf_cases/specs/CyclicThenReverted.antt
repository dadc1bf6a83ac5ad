-- A run that no swaps could help, and which reverts in the end.
use Rattle.std.specs.Prelude.{◌≡◌, [], ◌∷◌, List, Some, None}
use Rattle.ecf_cases.specs.Outcomes.{NoSwapsBringTogether}
use Rattle.ecf_cases.specs.Words.{contract, signature, object, num_field, method, num, field, object_name, plus, set_field, returns, reverts, call_only, transaction, tx_call, invocation}
use Rattle.ecf_lang.specs.Meaning.{run, RunResult}
use Rattle.ecf_lang.specs.declared.cell.Cell.{Cell}
use Rattle.ecf_lang.specs.declared.run.Cause.TheVariants.{User}
use Rattle.ecf_lang.specs.declared.run.Outcome.TheVariants.{Reverted}
use Rattle.ecf_lang.specs.declared.tree.Ty.TheVariants.{Num}
use Rattle.ecf_lang.specs.declared.tx.Tx.{Tx}
use Rattle.ecf_lang.specs.declared.typed.Typed.{Typed}
use Rattle.ecf_lang.specs.declared.typed.TypedStmt.{TypedStmt}
use Rattle.ecf_verdicts.specs.Receipts.{receipt_on, next_store}
use Rattle.ecf_verdicts.specs.Verdicts.{verdict, Vetoed}
use Rattle.ecf_verdicts.specs.Words.{cell, read_step, write_step}
use Rattle.ecf_lang.specs.declared.receipt.Receipt.TheVariants as receipt

-- object A {
--   num x;
--   method go(): num { x = 1; call B.back(); x = 2; revert 9; }
--   method set(): num { x = x + 1; return 0; }
-- }
-- object B {
--   method back(): num { call A.set(); return 0; }
-- }

-- go of A
abbrev pub cyclic_then_reverted_go : List TypedStmt
cyclic_then_reverted_go =
    set_field 0 (num 1)
    ∷ call_only (object_name 1) 2 []
    ∷ set_field 0 (num 2)
    ∷ reverts (num 9)
    ∷ []

-- set of A
abbrev pub cyclic_then_reverted_set : List TypedStmt
cyclic_then_reverted_set = set_field 0 (plus (field 0) (num 1)) ∷ returns (num 0) ∷ []

-- back of B
abbrev pub cyclic_then_reverted_back : List TypedStmt
cyclic_then_reverted_back = call_only (object_name 0) 1 [] ∷ returns (num 0) ∷ []

-- the contract
abbrev pub cyclic_then_reverted : Typed
cyclic_then_reverted = contract
    (signature [] Num ∷ signature [] Num ∷ signature [] Num ∷ [])
    (object (num_field ∷ []) (method 0 0 cyclic_then_reverted_go ∷ method 1 0 cyclic_then_reverted_set ∷ [])
    ∷ object [] (method 2 0 cyclic_then_reverted_back ∷ []) ∷ [])

-- x of A
abbrev pub x : Cell
x = cell 0 0 0

-- A go 200
abbrev pub go : Tx
go = transaction 200 (tx_call 0 0 [] ∷ [])

-- the caller reverts in the end: the steps up to there stay on record, and the store as it was
abbrev pub go_result : RunResult
go_result = record {
  outcome = Reverted (User 9);
  fuel = 54;
  store = [];
  steps = write_step 0 x 1
      ∷ read_step 2 x 1 ∷ write_step 2 x 2
      ∷ write_step 0 x 2 ∷ [];
  invocations = invocation 0 0 [] None (0 ∷ []) 27
      ∷ invocation 1 2 [] (Some 0) (0 ∷ []) 15
      ∷ invocation 0 1 [] (Some 0) [] 12 ∷ [];
  reads = [];
  writes = [];
}

abbrev pub RevertsAtLast : Type 0
RevertsAtLast = run cyclic_then_reverted [] go ≡ go_result

-- its steps would be vetoed
abbrev pub StepsVetoed : Type 0
StepsVetoed = verdict go_result.steps ≡ Vetoed 0 4 (0 ∷ 2 ∷ [])

-- but only a run that answered is judged
abbrev pub IsReverted : Type 0
IsReverted = receipt_on cyclic_then_reverted [] go ≡ receipt.Reverted (User 9) 54

-- the store stays
abbrev pub StoreStays : Type 0
StoreStays = next_store cyclic_then_reverted [] go ≡ []

-- no swaps bring the steps of each invocation together
abbrev pub NoSwapsHelp : Type 0
NoSwapsHelp = NoSwapsBringTogether cyclic_then_reverted [] go 0
