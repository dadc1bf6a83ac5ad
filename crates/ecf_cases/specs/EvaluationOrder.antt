-- What is evaluated first, as the steps tell.
use Rattle.std.specs.Prelude.{◌≡◌, ℕ, [], ◌∷◌, List, Some}
use Rattle.ecf_cases.specs.Words.{contract, signature, object, num_field, map_field, with_first, method, num, local, field, object_name, at, plus, minus, times, compare, external_call, internal_call, set_at, returns, transaction, tx_call, invocation}
use Rattle.ecf_lang.specs.Genesis.{genesis}
use Rattle.ecf_lang.specs.Meaning.{run, RunResult}
use Rattle.ecf_lang.specs.declared.cell.Cell.{Cell}
use Rattle.ecf_lang.specs.declared.run.Outcome.TheVariants.{Answer}
use Rattle.ecf_lang.specs.declared.tree.Op.TheVariants.{Lt}
use Rattle.ecf_lang.specs.declared.tree.Ty.TheVariants.{Num, Flag, Addr}
use Rattle.ecf_lang.specs.declared.tx.Tx.{Tx}
use Rattle.ecf_lang.specs.declared.typed.Typed.{Typed}
use Rattle.ecf_lang.specs.declared.typed.TypedStmt.{TypedStmt}
use Rattle.ecf_verdicts.specs.Words.{cell, read_step, write_step}

-- object A {
--   num x = 1;
--   num y = 2;
--   map m: num -> num = { 2: 6 };
--   method put(): num { m[x] = y; return 0; }
--   method get(): num { return m[y] - x; }
--   method compared(): flag { return x < y; }
--   method ask(): num { return call (self.target()).take(x, y); }
--   method target(): addr { return B; }
-- }
-- object B {
--   method take(a: num, b: num): num { return a * 10 + b; }
-- }

-- put of A
abbrev pub evaluation_order_put : List TypedStmt
evaluation_order_put = set_at 2 (field 0) (field 1) ∷ returns (num 0) ∷ []

-- get of A
abbrev pub evaluation_order_get : List TypedStmt
evaluation_order_get = returns (minus (at 2 (field 1)) (field 0)) ∷ []

-- compared of A
abbrev pub evaluation_order_compared : List TypedStmt
evaluation_order_compared = returns (compare (field 0) Lt (field 1)) ∷ []

-- ask of A
abbrev pub evaluation_order_ask : List TypedStmt
evaluation_order_ask = returns (external_call (internal_call 4 []) 5 (field 0 ∷ field 1 ∷ [])) ∷ []

-- target of A
abbrev pub evaluation_order_target : List TypedStmt
evaluation_order_target = returns (object_name 1) ∷ []

-- take of B
abbrev pub evaluation_order_take : List TypedStmt
evaluation_order_take = returns (plus (times (local 0) (num 10)) (local 1)) ∷ []

-- the contract
abbrev pub evaluation_order : Typed
evaluation_order = contract
    (signature [] Num ∷ signature [] Num ∷ signature [] Flag ∷ signature [] Num ∷ signature [] Addr ∷ signature (Num ∷ Num ∷ []) Num ∷ [])
    (object (with_first ((0, 1) ∷ []) num_field ∷ with_first ((0, 2) ∷ []) num_field ∷ with_first ((2, 6) ∷ []) (map_field Num Num) ∷ []) (
    method 0 0 evaluation_order_put
    ∷ method 1 0 evaluation_order_get
    ∷ method 2 0 evaluation_order_compared
    ∷ method 3 0 evaluation_order_ask
    ∷ method 4 0 evaluation_order_target ∷ [])
    ∷ object [] (method 5 2 evaluation_order_take ∷ []) ∷ [])

-- x of A
abbrev pub x : Cell
x = cell 0 0 0

-- y of A
abbrev pub y : Cell
y = cell 0 1 0

-- m of A, by its key
abbrev pub m : ℕ → Cell
m key = cell 0 2 key

-- A put 100
abbrev pub put : Tx
put = transaction 100 (tx_call 0 0 [] ∷ [])

-- an index before the value, and both before the write
abbrev pub put_result : RunResult
put_result = record {
  outcome = Answer 0;
  fuel = 13;
  store = (x, 1) ∷ (y, 2) ∷ (m 1, 2) ∷ (m 2, 6) ∷ [];
  steps = read_step 0 x 1 ∷ read_step 0 y 2 ∷ write_step 0 (m 1) 2 ∷ [];
  invocations = invocation 0 0 [] (Some 0) [] 13 ∷ [];
  reads = (x, 1) ∷ (y, 2) ∷ [];
  writes = (m 1, 2) ∷ [];
}

abbrev pub IndexFirst : Type 0
IndexFirst = run evaluation_order (genesis evaluation_order) put ≡ put_result

-- A get 100
abbrev pub get : Tx
get = transaction 100 (tx_call 0 1 [] ∷ [])

-- the left part of a difference before the right one
abbrev pub get_result : RunResult
get_result = record {
  outcome = Answer 5;
  fuel = 11;
  store = (x, 1) ∷ (y, 2) ∷ (m 2, 6) ∷ [];
  steps = read_step 0 y 2 ∷ read_step 0 (m 2) 6 ∷ read_step 0 x 1 ∷ [];
  invocations = invocation 0 1 [] (Some 5) [] 11 ∷ [];
  reads = (y, 2) ∷ (m 2, 6) ∷ (x, 1) ∷ [];
  writes = [];
}

abbrev pub LeftFirst : Type 0
LeftFirst = run evaluation_order (genesis evaluation_order) get ≡ get_result

-- A compared 100
abbrev pub compare_both : Tx
compare_both = transaction 100 (tx_call 0 2 [] ∷ [])

-- the left side of a comparison before the right one
abbrev pub compare_both_result : RunResult
compare_both_result = record {
  outcome = Answer 1;
  fuel = 8;
  store = (x, 1) ∷ (y, 2) ∷ (m 2, 6) ∷ [];
  steps = read_step 0 x 1 ∷ read_step 0 y 2 ∷ [];
  invocations = invocation 0 2 [] (Some 1) [] 8 ∷ [];
  reads = (x, 1) ∷ (y, 2) ∷ [];
  writes = [];
}

abbrev pub LeftSideFirst : Type 0
LeftSideFirst = run evaluation_order (genesis evaluation_order) compare_both ≡ compare_both_result

-- A ask 100
abbrev pub ask : Tx
ask = transaction 100 (tx_call 0 3 [] ∷ [])

-- a target before the arguments, in their order
abbrev pub ask_result : RunResult
ask_result = record {
  outcome = Answer 12;
  fuel = 30;
  store = (x, 1) ∷ (y, 2) ∷ (m 2, 6) ∷ [];
  steps = read_step 0 x 1 ∷ read_step 0 y 2 ∷ [];
  invocations = invocation 0 3 [] (Some 12) (12 ∷ []) 24
      ∷ invocation 1 5 (1 ∷ 2 ∷ []) (Some 12) [] 6 ∷ [];
  reads = (x, 1) ∷ (y, 2) ∷ [];
  writes = [];
}

abbrev pub TargetFirst : Type 0
TargetFirst = run evaluation_order (genesis evaluation_order) ask ≡ ask_result
