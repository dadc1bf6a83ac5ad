-- A callee that reverts after it called back.
use Rattle.std.specs.Prelude.{◌≡◌, [], ◌∷◌, List, Some, None}
use Rattle.ecf_cases.specs.Words.{contract, signature, object, num_field, method, num, field, object_name, plus, let_try, set_field, returns, reverts, call_only, transaction, tx_call, invocation}
use Rattle.ecf_lang.specs.Meaning.{run, RunResult}
use Rattle.ecf_lang.specs.Part.{as_undone}
use Rattle.ecf_lang.specs.declared.cell.Cell.{Cell}
use Rattle.ecf_lang.specs.declared.run.Outcome.TheVariants.{Answer}
use Rattle.ecf_lang.specs.declared.tree.Ty.TheVariants.{Num}
use Rattle.ecf_lang.specs.declared.tx.Tx.{Tx}
use Rattle.ecf_lang.specs.declared.typed.Typed.{Typed}
use Rattle.ecf_lang.specs.declared.typed.TypedStmt.{TypedStmt}
use Rattle.ecf_verdicts.specs.Words.{cell, read_step, write_step}

-- object A {
--   num x;
--   method go(): num {
--     x = 1;
--     let ok: flag = try B.back();
--     x = 2;
--     return x;
--   }
--   method set(): num { x = x + 1; return 0; }
-- }
-- object B {
--   method back(): num { call A.set(); revert 1; }
-- }

-- go of A
abbrev pub caught_callback_go : List TypedStmt
caught_callback_go =
    set_field 0 (num 1)
    ∷ let_try 0 (object_name 1) 2 []
    ∷ set_field 0 (num 2)
    ∷ returns (field 0)
    ∷ []

-- set of A
abbrev pub caught_callback_set : List TypedStmt
caught_callback_set = set_field 0 (plus (field 0) (num 1)) ∷ returns (num 0) ∷ []

-- back of B
abbrev pub caught_callback_back : List TypedStmt
caught_callback_back = call_only (object_name 0) 1 [] ∷ reverts (num 1) ∷ []

-- the contract
abbrev pub caught_callback : Typed
caught_callback = contract
    (signature [] Num ∷ signature [] Num ∷ signature [] Num ∷ [])
    (object (num_field ∷ []) (method 0 1 caught_callback_go ∷ method 1 0 caught_callback_set ∷ [])
    ∷ object [] (method 2 0 caught_callback_back ∷ []) ∷ [])

-- x of A
abbrev pub x : Cell
x = cell 0 0 0

-- A go 100
abbrev pub go : Tx
go = transaction 100 (tx_call 0 0 [] ∷ [])

-- what the callee called is undone with it
abbrev pub go_result : RunResult
go_result = record {
  outcome = Answer 2;
  fuel = 56;
  store = (x, 2) ∷ [];
  steps = write_step 0 x 1 ∷ write_step 0 x 2 ∷ read_step 0 x 2 ∷ [];
  invocations = invocation 0 0 [] (Some 2) (0 ∷ []) 29
      ∷ as_undone (invocation 1 2 [] None (0 ∷ []) 15)
      ∷ as_undone (invocation 0 1 [] (Some 0) [] 12) ∷ [];
  reads = [];
  writes = (x, 2) ∷ [];
}

abbrev pub UndoesCallback : Type 0
UndoesCallback = run caught_callback [] go ≡ go_result
