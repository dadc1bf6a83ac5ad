-- A revert in an argument of a try.
use Rattle.std.specs.Prelude.{◌≡◌, [], ◌∷◌, List, None}
use Rattle.ecf_cases.specs.Words.{contract, signature, object, num_field, with_first, method, num, local, field, object_name, over, let_try, returns, transaction, tx_call, invocation}
use Rattle.ecf_lang.specs.Genesis.{genesis}
use Rattle.ecf_lang.specs.Meaning.{run, RunResult}
use Rattle.ecf_lang.specs.declared.cell.Cell.{Cell}
use Rattle.ecf_lang.specs.declared.run.Cause.TheVariants.{DivZero}
use Rattle.ecf_lang.specs.declared.run.Outcome.TheVariants.{Reverted}
use Rattle.ecf_lang.specs.declared.tree.Ty.TheVariants.{Num}
use Rattle.ecf_lang.specs.declared.tx.Tx.{Tx}
use Rattle.ecf_lang.specs.declared.typed.Typed.{Typed}
use Rattle.ecf_lang.specs.declared.typed.TypedStmt.{TypedStmt}
use Rattle.ecf_verdicts.specs.Words.{cell, read_step}

-- object A {
--   num x = 3;
--   method go(): num {
--     let ok: flag = try B.take(x / 0);
--     return 1;
--   }
-- }
-- object B {
--   method take(n: num): num { return n; }
-- }

-- go of A
abbrev pub try_arguments_go : List TypedStmt
try_arguments_go =
    let_try 0 (object_name 1) 1 (over (field 0) (num 0) ∷ [])
    ∷ returns (num 1)
    ∷ []

-- take of B
abbrev pub try_arguments_take : List TypedStmt
try_arguments_take = returns (local 0) ∷ []

-- the contract
abbrev pub try_arguments : Typed
try_arguments = contract
    (signature [] Num ∷ signature (Num ∷ []) Num ∷ [])
    (object (with_first ((0, 3) ∷ []) num_field ∷ []) (method 0 1 try_arguments_go ∷ [])
    ∷ object [] (method 1 1 try_arguments_take ∷ []) ∷ [])

-- x of A
abbrev pub x : Cell
x = cell 0 0 0

-- A go 100
abbrev pub go : Tx
go = transaction 100 (tx_call 0 0 [] ∷ [])

-- a revert in an argument of the `try` is not caught by it
abbrev pub go_result : RunResult
go_result = record {
  outcome = Reverted DivZero;
  fuel = 7;
  store = (x, 3) ∷ [];
  steps = read_step 0 x 3 ∷ [];
  invocations = invocation 0 0 [] None [] 7 ∷ [];
  reads = (x, 3) ∷ [];
  writes = [];
}

abbrev pub ArgumentReverts : Type 0
ArgumentReverts = run try_arguments (genesis try_arguments) go ≡ go_result
