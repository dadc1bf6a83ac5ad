-- A callback between its caller's steps, on a field of its own: not together, yet free by one swap.
use Rattle.std.specs.Prelude.{◌≡◌, [], ◌∷◌, List, Some}
use Rattle.ecf_cases.specs.Outcomes.{SwapsBringTogether, IsNotTogether}
use Rattle.ecf_cases.specs.Words.{contract, signature, object, num_field, method, num, object_name, set_field, returns, call_only, transaction, tx_call, invocation}
use Rattle.ecf_lang.specs.Meaning.{run, RunResult}
use Rattle.ecf_lang.specs.declared.cell.Cell.{Cell}
use Rattle.ecf_lang.specs.declared.run.Outcome.TheVariants.{Answer}
use Rattle.ecf_lang.specs.declared.tree.Ty.TheVariants.{Num}
use Rattle.ecf_lang.specs.declared.tx.Tx.{Tx}
use Rattle.ecf_lang.specs.declared.typed.Typed.{Typed}
use Rattle.ecf_lang.specs.declared.typed.TypedStmt.{TypedStmt}
use Rattle.ecf_verdicts.specs.Receipts.{receipt_on, next_store}
use Rattle.ecf_verdicts.specs.Swaps.{swaps}
use Rattle.ecf_verdicts.specs.Verdicts.{verdict, Approved}
use Rattle.ecf_verdicts.specs.Words.{cell, write_step, order}
use Rattle.ecf_lang.specs.declared.receipt.Receipt.TheVariants as receipt

-- object A {
--   num a;
--   num b;
--   num c;
--   method go(): num { a = 1; call B.back(); b = 2; return 0; }
--   method set(): num { c = 3; return 0; }
-- }
-- object B {
--   method back(): num { call A.set(); return 0; }
-- }

-- go of A
abbrev pub apart_yet_free_go : List TypedStmt
apart_yet_free_go =
    set_field 0 (num 1)
    ∷ call_only (object_name 1) 2 []
    ∷ set_field 1 (num 2)
    ∷ returns (num 0)
    ∷ []

-- set of A
abbrev pub apart_yet_free_set : List TypedStmt
apart_yet_free_set = set_field 2 (num 3) ∷ returns (num 0) ∷ []

-- back of B
abbrev pub apart_yet_free_back : List TypedStmt
apart_yet_free_back = call_only (object_name 0) 1 [] ∷ returns (num 0) ∷ []

-- the contract
abbrev pub apart_yet_free : Typed
apart_yet_free = contract
    (signature [] Num ∷ signature [] Num ∷ signature [] Num ∷ [])
    (object (num_field ∷ num_field ∷ num_field ∷ []) (method 0 0 apart_yet_free_go ∷ method 1 0 apart_yet_free_set ∷ [])
    ∷ object [] (method 2 0 apart_yet_free_back ∷ []) ∷ [])

-- A go 200
abbrev pub go : Tx
go = transaction 200 (tx_call 0 0 [] ∷ [])

-- a of A
abbrev pub a : Cell
a = cell 0 0 0

-- b of A
abbrev pub b : Cell
b = cell 0 1 0

-- c of A
abbrev pub c : Cell
c = cell 0 2 0

-- the caller's steps stand on both sides of the callback's
abbrev pub go_result : RunResult
go_result = record {
  outcome = Answer 0;
  fuel = 50;
  store = (a, 1) ∷ (b, 2) ∷ (c, 3) ∷ [];
  steps = write_step 0 a 1
      ∷ write_step 2 c 3
      ∷ write_step 0 b 2 ∷ [];
  invocations = invocation 0 0 [] (Some 0) (0 ∷ []) 27
      ∷ invocation 1 2 [] (Some 0) (0 ∷ []) 15
      ∷ invocation 0 1 [] (Some 0) [] 8 ∷ [];
  reads = [];
  writes = (a, 1) ∷ (b, 2) ∷ (c, 3) ∷ [];
}

abbrev pub StepsApart : Type 0
StepsApart = run apart_yet_free [] go ≡ go_result

-- the verdict on its steps
abbrev pub StepsApproved : Type 0
StepsApproved = verdict go_result.steps ≡ Approved (order 0 (0 ∷ 2 ∷ []) ∷ [])

-- the receipt
abbrev pub IsCommitted : Type 0
IsCommitted = receipt_on apart_yet_free [] go ≡ receipt.Committed 0 50 (order 0 (0 ∷ 2 ∷ []) ∷ [])

-- the store that it leaves
abbrev pub StoreChanges : Type 0
StoreChanges = next_store apart_yet_free [] go ≡ (a, 1) ∷ (b, 2) ∷ (c, 3) ∷ []

-- the caller's steps have the callback's between them
abbrev pub NotTogether : Type 0
NotTogether = IsNotTogether apart_yet_free [] go 0

-- swaps bring them together
abbrev pub SwapsHelp : Type 0
SwapsHelp = SwapsBringTogether apart_yet_free [] go 0

-- one swap does, with the caller's later step
abbrev pub LaterSwapHelps : Type 0
LaterSwapHelps = swaps go_result.steps (1 ∷ []) ≡ Some (write_step 0 a 1 ∷ write_step 0 b 2 ∷ write_step 2 c 3 ∷ [])

-- and so does one with its earlier step
abbrev pub EarlierSwapHelps : Type 0
EarlierSwapHelps = swaps go_result.steps (0 ∷ []) ≡ Some (write_step 2 c 3 ∷ write_step 0 a 1 ∷ write_step 0 b 2 ∷ [])
