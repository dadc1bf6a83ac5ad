-- A callee whose revert is caught.
use Rattle.std.specs.Prelude.{◌≡◌, [], ◌∷◌, List, Some, None}
use Rattle.ecf_cases.specs.Words.{contract, signature, object, num_field, method, num, local, field, object_name, let_try, set_field, when, returns, reverts, transaction, tx_call, invocation}
use Rattle.ecf_lang.specs.Meaning.{run, RunResult}
use Rattle.ecf_lang.specs.Part.{as_undone}
use Rattle.ecf_lang.specs.declared.cell.Cell.{Cell}
use Rattle.ecf_lang.specs.declared.run.Outcome.TheVariants.{Answer, OutOfFuel}
use Rattle.ecf_lang.specs.declared.tree.Ty.TheVariants.{Num}
use Rattle.ecf_lang.specs.declared.tx.Tx.{Tx}
use Rattle.ecf_lang.specs.declared.typed.Typed.{Typed}
use Rattle.ecf_lang.specs.declared.typed.TypedStmt.{TypedStmt}
use Rattle.ecf_verdicts.specs.Receipts.{receipt_on, next_store}
use Rattle.ecf_verdicts.specs.Verdicts.{verdict, Approved}
use Rattle.ecf_verdicts.specs.Words.{cell, read_step, write_step}
use Rattle.ecf_lang.specs.declared.receipt.Receipt.TheVariants as receipt

-- object A {
--   num x;
--   method go(): num {
--     x = 1;
--     let ok: flag = try B.bad();
--     if ok { x = 5; }
--     return x;
--   }
-- }
-- object B {
--   num y;
--   method bad(): num { y = 7; revert 3; }
-- }

-- go of A
abbrev pub caught_revert_go : List TypedStmt
caught_revert_go =
    set_field 0 (num 1)
    ∷ let_try 0 (object_name 1) 1 []
    ∷ when (local 0) (set_field 0 (num 5) ∷ [])
    ∷ returns (field 0)
    ∷ []

-- bad of B
abbrev pub caught_revert_bad : List TypedStmt
caught_revert_bad = set_field 0 (num 7) ∷ reverts (num 3) ∷ []

-- the contract
abbrev pub caught_revert : Typed
caught_revert = contract
    (signature [] Num ∷ signature [] Num ∷ [])
    (object (num_field ∷ []) (method 0 1 caught_revert_go ∷ [])
    ∷ object (num_field ∷ []) (method 1 0 caught_revert_bad ∷ []) ∷ [])

-- x of A
abbrev pub x : Cell
x = cell 0 0 0

-- y of B
abbrev pub y : Cell
y = cell 1 0 0

-- A go 100
abbrev pub go : Tx
go = transaction 100 (tx_call 0 0 [] ∷ [])

-- the callee is undone: its step and its write are gone, its fuel is not
abbrev pub go_result : RunResult
go_result = record {
  outcome = Answer 1;
  fuel = 33;
  store = (x, 1) ∷ [];
  steps = write_step 0 x 1 ∷ read_step 0 x 1 ∷ [];
  invocations = invocation 0 0 [] (Some 1) (0 ∷ []) 25
      ∷ as_undone (invocation 1 1 [] None [] 8) ∷ [];
  reads = [];
  writes = (x, 1) ∷ [];
}

abbrev pub CatchesRevert : Type 0
CatchesRevert = run caught_revert [] go ≡ go_result

-- A go 20
abbrev pub go_with_20 : Tx
go_with_20 = transaction 20 (tx_call 0 0 [] ∷ [])

-- want of fuel in the callee is not caught
abbrev pub go_with_20_result : RunResult
go_with_20_result = record {
  outcome = OutOfFuel;
  fuel = 20;
  store = [];
  steps = write_step 0 x 1 ∷ [];
  invocations = invocation 0 0 [] None [] 19
      ∷ invocation 1 1 [] None [] 1 ∷ [];
  reads = [];
  writes = [];
}

abbrev pub WantOfFuelPasses : Type 0
WantOfFuelPasses = run caught_revert [] go_with_20 ≡ go_with_20_result

-- where the revert is caught: the verdict on the steps
abbrev pub StepsApproved : Type 0
StepsApproved = verdict go_result.steps ≡ Approved []

-- the receipt
abbrev pub IsCommitted : Type 0
IsCommitted = receipt_on caught_revert [] go ≡ receipt.Committed 1 33 []

-- the store that it leaves
abbrev pub StoreChanges : Type 0
StoreChanges = next_store caught_revert [] go ≡ (x, 1) ∷ []
