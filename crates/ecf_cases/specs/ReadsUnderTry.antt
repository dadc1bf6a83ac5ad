-- Reads of a callee that reverts.
use Rattle.std.specs.Prelude.{◌≡◌, [], ◌∷◌, List, Some, None}
use Rattle.ecf_cases.specs.Words.{contract, signature, object, num_field, with_first, method, num, field, object_name, plus, let_try, set_field, returns, reverts, call_only, transaction, tx_call, invocation}
use Rattle.ecf_lang.specs.Genesis.{genesis}
use Rattle.ecf_lang.specs.Meaning.{run, RunResult}
use Rattle.ecf_lang.specs.Part.{as_undone}
use Rattle.ecf_lang.specs.declared.cell.Cell.{Cell}
use Rattle.ecf_lang.specs.declared.run.Outcome.TheVariants.{Answer}
use Rattle.ecf_lang.specs.declared.tree.Ty.TheVariants.{Num}
use Rattle.ecf_lang.specs.declared.tx.Tx.{Tx}
use Rattle.ecf_lang.specs.declared.typed.Typed.{Typed}
use Rattle.ecf_lang.specs.declared.typed.TypedStmt.{TypedStmt}
use Rattle.ecf_verdicts.specs.Words.{cell, read_step, write_step}

-- object A {
--   num x = 2;
--   method go(): num {
--     x = x + 1;
--     let ok: flag = try B.bad();
--     call B.good();
--     return x;
--   }
-- }
-- object B {
--   num y = 5;
--   num z = 8;
--   method bad(): num { y = y + 1; revert z; }
--   method good(): num { return y; }
-- }
-- object C { }

-- go of A
abbrev pub reads_under_try_go : List TypedStmt
reads_under_try_go =
    set_field 0 (plus (field 0) (num 1))
    ∷ let_try 0 (object_name 1) 1 []
    ∷ call_only (object_name 1) 2 []
    ∷ returns (field 0)
    ∷ []

-- bad of B
abbrev pub reads_under_try_bad : List TypedStmt
reads_under_try_bad = set_field 0 (plus (field 0) (num 1)) ∷ reverts (field 1) ∷ []

-- good of B
abbrev pub reads_under_try_good : List TypedStmt
reads_under_try_good = returns (field 0) ∷ []

-- the contract
abbrev pub reads_under_try : Typed
reads_under_try = contract
    (signature [] Num ∷ signature [] Num ∷ signature [] Num ∷ [])
    (object (with_first ((0, 2) ∷ []) num_field ∷ []) (method 0 1 reads_under_try_go ∷ [])
    ∷ object (with_first ((0, 5) ∷ []) num_field ∷ with_first ((0, 8) ∷ []) num_field ∷ []) (
    method 1 0 reads_under_try_bad
    ∷ method 2 0 reads_under_try_good ∷ [])
    ∷ object [] [] ∷ [])

-- x of A
abbrev pub x : Cell
x = cell 0 0 0

-- y of B
abbrev pub y : Cell
y = cell 1 0 0

-- A go 100
abbrev pub go : Tx
go = transaction 100 (tx_call 0 0 [] ∷ [])

-- z of B
abbrev pub z : Cell
z = cell 1 1 0

-- what was read under the `try` stays among the reads; what was written is as before, and the next invocation takes the next number
abbrev pub go_result : RunResult
go_result = record {
  outcome = Answer 3;
  fuel = 58;
  store = (x, 3) ∷ (y, 5) ∷ (z, 8) ∷ [];
  steps = read_step 0 x 2 ∷ write_step 0 x 3
      ∷ read_step 2 y 5
      ∷ read_step 0 x 3 ∷ [];
  invocations = invocation 0 0 [] (Some 3) (0 ∷ 5 ∷ []) 40
      ∷ as_undone (invocation 1 1 [] None [] 14)
      ∷ invocation 1 2 [] (Some 5) [] 4 ∷ [];
  reads = (x, 2) ∷ (y, 5) ∷ (z, 8) ∷ [];
  writes = (x, 3) ∷ [];
}

abbrev pub ReadsStay : Type 0
ReadsStay = run reads_under_try (genesis reads_under_try) go ≡ go_result
