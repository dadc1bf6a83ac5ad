-- A try whose callee answers.
use Rattle.std.specs.Prelude.{◌≡◌, [], ◌∷◌, List, Some}
use Rattle.ecf_cases.specs.Words.{contract, signature, object, num_field, method, num, local, field, object_name, let_try, set_field, when, returns, transaction, tx_call, invocation}
use Rattle.ecf_lang.specs.Meaning.{run, RunResult}
use Rattle.ecf_lang.specs.declared.cell.Cell.{Cell}
use Rattle.ecf_lang.specs.declared.run.Outcome.TheVariants.{Answer}
use Rattle.ecf_lang.specs.declared.tree.Ty.TheVariants.{Num}
use Rattle.ecf_lang.specs.declared.tx.Tx.{Tx}
use Rattle.ecf_lang.specs.declared.typed.Typed.{Typed}
use Rattle.ecf_lang.specs.declared.typed.TypedStmt.{TypedStmt}
use Rattle.ecf_verdicts.specs.Words.{cell, read_step, write_step}

-- object A {
--   num x;
--   method go(): num {
--     let ok: flag = try B.good(4);
--     if ok { x = 5; }
--     return x;
--   }
-- }
-- object B {
--   num y;
--   method good(n: num): num { y = n; return 9; }
-- }

-- go of A
abbrev pub answered_try_go : List TypedStmt
answered_try_go =
    let_try 0 (object_name 1) 1 (num 4 ∷ [])
    ∷ when (local 0) (set_field 0 (num 5) ∷ [])
    ∷ returns (field 0)
    ∷ []

-- good of B
abbrev pub answered_try_good : List TypedStmt
answered_try_good = set_field 0 (local 0) ∷ returns (num 9) ∷ []

-- the contract
abbrev pub answered_try : Typed
answered_try = contract
    (signature [] Num ∷ signature (Num ∷ []) Num ∷ [])
    (object (num_field ∷ []) (method 0 1 answered_try_go ∷ [])
    ∷ object (num_field ∷ []) (method 1 1 answered_try_good ∷ []) ∷ [])

-- x of A
abbrev pub x : Cell
x = cell 0 0 0

-- y of B
abbrev pub y : Cell
y = cell 1 0 0

-- A go 100
abbrev pub go : Tx
go = transaction 100 (tx_call 0 0 [] ∷ [])

-- where the callee answers, the flag is 1, and its steps and writes stay
abbrev pub go_result : RunResult
go_result = record {
  outcome = Answer 5;
  fuel = 34;
  store = (x, 5) ∷ (y, 4) ∷ [];
  steps = write_step 1 y 4
      ∷ write_step 0 x 5 ∷ read_step 0 x 5 ∷ [];
  invocations = invocation 0 0 [] (Some 5) (1 ∷ []) 26
      ∷ invocation 1 1 (4 ∷ []) (Some 9) [] 8 ∷ [];
  reads = [];
  writes = (x, 5) ∷ (y, 4) ∷ [];
}

abbrev pub KeepsAnswer : Type 0
KeepsAnswer = run answered_try [] go ≡ go_result
