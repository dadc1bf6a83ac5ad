-- A callback that ends before its caller's first step.
use Rattle.std.specs.Prelude.{◌≡◌, [], ◌∷◌, List, Some}
use Rattle.ecf_cases.specs.Words.{contract, signature, object, num_field, method, num, field, object_name, plus, set_field, returns, call_only, transaction, tx_call, invocation}
use Rattle.ecf_lang.specs.Meaning.{run, RunResult}
use Rattle.ecf_lang.specs.declared.cell.Cell.{Cell}
use Rattle.ecf_lang.specs.declared.run.Outcome.TheVariants.{Answer}
use Rattle.ecf_lang.specs.declared.tree.Ty.TheVariants.{Num}
use Rattle.ecf_lang.specs.declared.tx.Tx.{Tx}
use Rattle.ecf_lang.specs.declared.typed.Typed.{Typed}
use Rattle.ecf_lang.specs.declared.typed.TypedStmt.{TypedStmt}
use Rattle.ecf_verdicts.specs.Receipts.{receipt_on, next_store}
use Rattle.ecf_verdicts.specs.Verdicts.{verdict, Approved}
use Rattle.ecf_verdicts.specs.Words.{cell, read_step, write_step, order}
use Rattle.ecf_lang.specs.declared.receipt.Receipt.TheVariants as receipt

-- object A {
--   num x;
--   method go(): num { call B.back(); x = x + 1; return x; }
--   method set(): num { x = 10; return 0; }
-- }
-- object B {
--   method back(): num { call A.set(); return 0; }
-- }

-- go of A
abbrev pub callback_first_go : List TypedStmt
callback_first_go =
    call_only (object_name 1) 2 []
    ∷ set_field 0 (plus (field 0) (num 1))
    ∷ returns (field 0)
    ∷ []

-- set of A
abbrev pub callback_first_set : List TypedStmt
callback_first_set = set_field 0 (num 10) ∷ returns (num 0) ∷ []

-- back of B
abbrev pub callback_first_back : List TypedStmt
callback_first_back = call_only (object_name 0) 1 [] ∷ returns (num 0) ∷ []

-- the contract
abbrev pub callback_first : Typed
callback_first = contract
    (signature [] Num ∷ signature [] Num ∷ signature [] Num ∷ [])
    (object (num_field ∷ []) (method 0 0 callback_first_go ∷ method 1 0 callback_first_set ∷ [])
    ∷ object [] (method 2 0 callback_first_back ∷ []) ∷ [])

-- x of A
abbrev pub x : Cell
x = cell 0 0 0

-- A go 200
abbrev pub go : Tx
go = transaction 200 (tx_call 0 0 [] ∷ [])

-- the callback's steps come before all of its caller's
abbrev pub go_result : RunResult
go_result = record {
  outcome = Answer 11;
  fuel = 50;
  store = (x, 11) ∷ [];
  steps = write_step 2 x 10
      ∷ read_step 0 x 10 ∷ write_step 0 x 11 ∷ read_step 0 x 11 ∷ [];
  invocations = invocation 0 0 [] (Some 11) (0 ∷ []) 27
      ∷ invocation 1 2 [] (Some 0) (0 ∷ []) 15
      ∷ invocation 0 1 [] (Some 0) [] 8 ∷ [];
  reads = [];
  writes = (x, 11) ∷ [];
}

abbrev pub ComesFirst : Type 0
ComesFirst = run callback_first [] go ≡ go_result

-- the verdict on its steps
abbrev pub StepsApproved : Type 0
StepsApproved = verdict go_result.steps ≡ Approved (order 0 (2 ∷ 0 ∷ []) ∷ [])

-- the receipt
abbrev pub IsCommitted : Type 0
IsCommitted = receipt_on callback_first [] go ≡ receipt.Committed 11 50 (order 0 (2 ∷ 0 ∷ []) ∷ [])

-- the store that it leaves
abbrev pub StoreChanges : Type 0
StoreChanges = next_store callback_first [] go ≡ (x, 11) ∷ []
