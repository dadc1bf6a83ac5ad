-- A loop that fills a map and sums it.
use Rattle.std.specs.Prelude.{◌≡◌, ℕ, [], ◌∷◌, List, Some}
use Rattle.ecf_cases.specs.Words.{contract, signature, object, map_field, method, num, local, at, plus, times, compare, let_num, set_local, set_at, while, returns, transaction, tx_call, invocation}
use Rattle.ecf_lang.specs.Meaning.{run, RunResult}
use Rattle.ecf_lang.specs.declared.cell.Cell.{Cell}
use Rattle.ecf_lang.specs.declared.run.Outcome.TheVariants.{Answer}
use Rattle.ecf_lang.specs.declared.tree.Op.TheVariants.{Lt}
use Rattle.ecf_lang.specs.declared.tree.Ty.TheVariants.{Num}
use Rattle.ecf_lang.specs.declared.tx.Tx.{Tx}
use Rattle.ecf_lang.specs.declared.typed.Typed.{Typed}
use Rattle.ecf_lang.specs.declared.typed.TypedStmt.{TypedStmt}
use Rattle.ecf_verdicts.specs.Words.{cell, read_step, write_step}

-- object S {
--   map m: num -> num;
--   method sum(n: num): num {
--     let i: num = 0;
--     let t: num = 0;
--     while i < n {
--       i = i + 1;
--       m[i] = i * i;
--       t = t + m[i];
--     }
--     return t;
--   }
-- }

-- the turn in sum of S
abbrev pub sum_of_squares_sum_turn : List TypedStmt
sum_of_squares_sum_turn =
    set_local 1 (plus (local 1) (num 1))
    ∷ set_at 0 (local 1) (times (local 1) (local 1))
    ∷ set_local 2 (plus (local 2) (at 0 (local 1)))
    ∷ []

-- sum of S
abbrev pub sum_of_squares_sum : List TypedStmt
sum_of_squares_sum =
    let_num 1 (num 0)
    ∷ let_num 2 (num 0)
    ∷ while (compare (local 1) Lt (local 0)) sum_of_squares_sum_turn
    ∷ returns (local 2)
    ∷ []

-- the contract
abbrev pub sum_of_squares : Typed
sum_of_squares = contract
    (signature (Num ∷ []) Num ∷ [])
    (object (map_field Num Num ∷ []) (method 0 3 sum_of_squares_sum ∷ []) ∷ [])

-- m of S, by its key
abbrev pub m : ℕ → Cell
m key = cell 0 0 key

-- S sum 1000 3
abbrev pub sum_of_three : Tx
sum_of_three = transaction 1000 (tx_call 0 0 (3 ∷ []) ∷ [])

-- three turns
abbrev pub sum_of_three_result : RunResult
sum_of_three_result = record {
  outcome = Answer 14;
  fuel = 82;
  store = (m 1, 1) ∷ (m 2, 4) ∷ (m 3, 9) ∷ [];
  steps = write_step 0 (m 1) 1 ∷ read_step 0 (m 1) 1 ∷ write_step 0 (m 2) 4 ∷ read_step 0 (m 2) 4 ∷ write_step 0 (m 3) 9
      ∷ read_step 0 (m 3) 9 ∷ [];
  invocations = invocation 0 0 (3 ∷ []) (Some 14) [] 82 ∷ [];
  reads = [];
  writes = (m 1, 1) ∷ (m 2, 4) ∷ (m 3, 9) ∷ [];
}

abbrev pub SumsSquares : Type 0
SumsSquares = run sum_of_squares [] sum_of_three ≡ sum_of_three_result

-- S sum 1000 0
abbrev pub sum_of_none : Tx
sum_of_none = transaction 1000 (tx_call 0 0 (0 ∷ []) ∷ [])

-- no turn: the condition alone is paid
abbrev pub sum_of_none_result : RunResult
sum_of_none_result = record {
  outcome = Answer 0;
  fuel = 10;
  store = [];
  steps = [];
  invocations = invocation 0 0 (0 ∷ []) (Some 0) [] 10 ∷ [];
  reads = [];
  writes = [];
}

abbrev pub NoTurn : Type 0
NoTurn = run sum_of_squares [] sum_of_none ≡ sum_of_none_result
