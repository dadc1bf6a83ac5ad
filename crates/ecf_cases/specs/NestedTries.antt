-- A try inside a try.
use Rattle.std.specs.Prelude.{◌≡◌, [], ◌∷◌, List, Some, None}
use Rattle.ecf_cases.specs.Words.{contract, signature, object, num_field, method, num, local, field, object_name, plus, over, let_try, set_field, when, returns, call_only, transaction, tx_call, invocation}
use Rattle.ecf_lang.specs.Meaning.{run, RunResult}
use Rattle.ecf_lang.specs.Part.{as_undone}
use Rattle.ecf_lang.specs.declared.cell.Cell.{Cell}
use Rattle.ecf_lang.specs.declared.run.Outcome.TheVariants.{Answer}
use Rattle.ecf_lang.specs.declared.tree.Ty.TheVariants.{Num}
use Rattle.ecf_lang.specs.declared.tx.Tx.{Tx}
use Rattle.ecf_lang.specs.declared.typed.Typed.{Typed}
use Rattle.ecf_lang.specs.declared.typed.TypedStmt.{TypedStmt}
use Rattle.ecf_verdicts.specs.Words.{cell, read_step, write_step}

-- object A {
--   num x;
--   method go(): num {
--     let ok: flag = try B.middle();
--     if ok { return x; }
--     return 100;
--   }
--   method set(n: num): num { x = x + n; return x; }
-- }
-- object B {
--   num y;
--   method middle(): num {
--     call A.set(1);
--     let ok: flag = try C.bad();
--     if ok { return 0; }
--     y = 4;
--     return 1;
--   }
-- }
-- object C {
--   method bad(): num { call A.set(10); return 1 / 0; }
-- }

-- go of A
abbrev pub nested_tries_go : List TypedStmt
nested_tries_go =
    let_try 0 (object_name 1) 2 []
    ∷ when (local 0) (returns (field 0) ∷ [])
    ∷ returns (num 100)
    ∷ []

-- set of A
abbrev pub nested_tries_set : List TypedStmt
nested_tries_set = set_field 0 (plus (field 0) (local 0)) ∷ returns (field 0) ∷ []

-- middle of B
abbrev pub nested_tries_middle : List TypedStmt
nested_tries_middle =
    call_only (object_name 0) 1 (num 1 ∷ [])
    ∷ let_try 0 (object_name 2) 3 []
    ∷ when (local 0) (returns (num 0) ∷ [])
    ∷ set_field 0 (num 4)
    ∷ returns (num 1)
    ∷ []

-- bad of C
abbrev pub nested_tries_bad : List TypedStmt
nested_tries_bad = call_only (object_name 0) 1 (num 10 ∷ []) ∷ returns (over (num 1) (num 0)) ∷ []

-- the contract
abbrev pub nested_tries : Typed
nested_tries = contract
    (signature [] Num ∷ signature (Num ∷ []) Num ∷ signature [] Num ∷ signature [] Num ∷ [])
    (object (num_field ∷ []) (method 0 1 nested_tries_go ∷ method 1 1 nested_tries_set ∷ [])
    ∷ object (num_field ∷ []) (method 2 1 nested_tries_middle ∷ [])
    ∷ object [] (method 3 0 nested_tries_bad ∷ []) ∷ [])

-- x of A
abbrev pub x : Cell
x = cell 0 0 0

-- y of B
abbrev pub y : Cell
y = cell 1 0 0

-- A go 300
abbrev pub go : Tx
go = transaction 300 (tx_call 0 0 [] ∷ [])

-- the innermost `try` catches; the outer one hears an answer
abbrev pub go_result : RunResult
go_result = record {
  outcome = Answer 1;
  fuel = 102;
  store = (x, 1) ∷ (y, 4) ∷ [];
  steps = read_step 2 x 0 ∷ write_step 2 x 1 ∷ read_step 2 x 1
      ∷ write_step 1 y 4
      ∷ read_step 0 x 1 ∷ [];
  invocations = invocation 0 0 [] (Some 1) (1 ∷ []) 19
      ∷ invocation 1 2 [] (Some 1) (1 ∷ 0 ∷ []) 37
      ∷ invocation 0 1 (1 ∷ []) (Some 1) [] 14
      ∷ as_undone (invocation 2 3 [] None (11 ∷ []) 18)
      ∷ as_undone (invocation 0 1 (10 ∷ []) (Some 11) [] 14) ∷ [];
  reads = (x, 0) ∷ [];
  writes = (x, 1) ∷ (y, 4) ∷ [];
}

abbrev pub InnermostCatches : Type 0
InnermostCatches = run nested_tries [] go ≡ go_result
