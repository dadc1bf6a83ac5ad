-- A return from inside a loop.
use Rattle.std.specs.Prelude.{◌≡◌, true, [], ◌∷◌, List, Some}
use Rattle.ecf_cases.specs.Words.{contract, signature, object, method, num, flag, local, plus, times, compare, let_num, set_local, when, while, returns, transaction, tx_call, invocation}
use Rattle.ecf_lang.specs.Meaning.{run, RunResult}
use Rattle.ecf_lang.specs.declared.run.Outcome.TheVariants.{Answer}
use Rattle.ecf_lang.specs.declared.tree.Op.TheVariants.{Eq}
use Rattle.ecf_lang.specs.declared.tree.Ty.TheVariants.{Num}
use Rattle.ecf_lang.specs.declared.tx.Tx.{Tx}
use Rattle.ecf_lang.specs.declared.typed.Typed.{Typed}
use Rattle.ecf_lang.specs.declared.typed.TypedStmt.{TypedStmt}

-- object S {
--   method first(n: num): num {
--     let i: num = 0;
--     while true {
--       i = i + 1;
--       if i == n { return i * 10; }
--     }
--     return 7;
--   }
-- }

-- the turn in first of S
abbrev pub return_in_loop_first_turn : List TypedStmt
return_in_loop_first_turn =
    set_local 1 (plus (local 1) (num 1))
    ∷ when (compare (local 1) Eq (local 0)) (returns (times (local 1) (num 10)) ∷ [])
    ∷ []

-- first of S
abbrev pub return_in_loop_first : List TypedStmt
return_in_loop_first =
    let_num 1 (num 0)
    ∷ while (flag true) return_in_loop_first_turn
    ∷ returns (num 7)
    ∷ []

-- the contract
abbrev pub return_in_loop : Typed
return_in_loop = contract
    (signature (Num ∷ []) Num ∷ [])
    (object [] (method 0 2 return_in_loop_first ∷ []) ∷ [])

-- S first 1000 2
abbrev pub first_with_2 : Tx
first_with_2 = transaction 1000 (tx_call 0 0 (2 ∷ []) ∷ [])

-- a `return` in a loop ends the method
abbrev pub first_with_2_result : RunResult
first_with_2_result = record {
  outcome = Answer 20;
  fuel = 27;
  store = [];
  steps = [];
  invocations = invocation 0 0 (2 ∷ []) (Some 20) [] 27 ∷ [];
  reads = [];
  writes = [];
}

abbrev pub ReturnsFromLoop : Type 0
ReturnsFromLoop = run return_in_loop [] first_with_2 ≡ first_with_2_result
