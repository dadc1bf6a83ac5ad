-- Comparisons, `!`, `&&`, `||`, `if`, and the end of a method.
use Rattle.std.specs.Prelude.{◌≡◌, [], ◌∷◌, List, Some}
use Rattle.ecf_cases.specs.Words.{contract, signature, object, num_field, flag_field, with_first, method, num, local, field, no, compare, all_of, any_of, set_field, choose, arm, otherwise, when, returns, transaction, tx_call, invocation}
use Rattle.ecf_lang.specs.Genesis.{genesis}
use Rattle.ecf_lang.specs.Meaning.{run, RunResult}
use Rattle.ecf_lang.specs.declared.cell.Cell.{Cell}
use Rattle.ecf_lang.specs.declared.run.Outcome.TheVariants.{Answer}
use Rattle.ecf_lang.specs.declared.tree.Op.TheVariants.{Eq, Ne, Lt, Le, Gt, Ge}
use Rattle.ecf_lang.specs.declared.tree.Ty.TheVariants.{Num, Flag}
use Rattle.ecf_lang.specs.declared.tx.Tx.{Tx}
use Rattle.ecf_lang.specs.declared.typed.Typed.{Typed}
use Rattle.ecf_lang.specs.declared.typed.TypedStmt.{TypedStmt}
use Rattle.ecf_verdicts.specs.Words.{cell, read_step, write_step}

-- object L {
--   num x = 3;
--   flag f = true;
--   method both(n: num): flag { return n < 2 && x == 3; }
--   method either(n: num): flag { return n >= 2 || x != 3; }
--   method three(n: num): flag { return n <= 5 && n > 1 && ! f; }
--   method choose(n: num): num {
--     if n == 0 { return 10; } else if n == 1 { x = 20; } else { x = 30; }
--     return x;
--   }
--   method silent(n: num): num { if n == 0 { return 5; } x = n; }
-- }

-- both of L
abbrev pub logic_both : List TypedStmt
logic_both =
    returns (all_of (compare (local 0) Lt (num 2) ∷ compare (field 0) Eq (num 3) ∷ []))
    ∷ []

-- either of L
abbrev pub logic_either : List TypedStmt
logic_either =
    returns (any_of (compare (local 0) Ge (num 2) ∷ compare (field 0) Ne (num 3) ∷ []))
    ∷ []

-- three of L
abbrev pub logic_three : List TypedStmt
logic_three =
    returns (all_of (compare (local 0) Le (num 5) ∷ compare (local 0) Gt (num 1) ∷ no (field 1) ∷ []))
    ∷ []

-- choose of L
abbrev pub logic_choose : List TypedStmt
logic_choose =
    choose
    (arm (compare (local 0) Eq (num 0)) (returns (num 10) ∷ []) ∷ arm (compare (local 0) Eq (num 1)) (set_field 0 (num 20) ∷ []) ∷ [])
    (otherwise (set_field 0 (num 30) ∷ []))
    ∷ returns (field 0)
    ∷ []

-- silent of L
abbrev pub logic_silent : List TypedStmt
logic_silent =
    when (compare (local 0) Eq (num 0)) (returns (num 5) ∷ [])
    ∷ set_field 0 (local 0)
    ∷ []

-- the contract
abbrev pub logic : Typed
logic = contract
    (signature (Num ∷ []) Flag ∷ signature (Num ∷ []) Flag ∷ signature (Num ∷ []) Flag ∷ signature (Num ∷ []) Num
    ∷ signature (Num ∷ []) Num ∷ [])
    (object (with_first ((0, 3) ∷ []) num_field ∷ with_first ((0, 1) ∷ []) flag_field ∷ []) (
    method 0 1 logic_both
    ∷ method 1 1 logic_either
    ∷ method 2 1 logic_three
    ∷ method 3 1 logic_choose
    ∷ method 4 1 logic_silent ∷ []) ∷ [])

-- x of L
abbrev pub x : Cell
x = cell 0 0 0

-- f of L
abbrev pub f : Cell
f = cell 0 1 0

-- L both 100 1
abbrev pub both_1 : Tx
both_1 = transaction 100 (tx_call 0 0 (1 ∷ []) ∷ [])

-- a true left side of `&&`: the right side is evaluated
abbrev pub both_1_result : RunResult
both_1_result = record {
  outcome = Answer 1;
  fuel = 10;
  store = (x, 3) ∷ (f, 1) ∷ [];
  steps = read_step 0 x 3 ∷ [];
  invocations = invocation 0 0 (1 ∷ []) (Some 1) [] 10 ∷ [];
  reads = (x, 3) ∷ [];
  writes = [];
}

abbrev pub BothRead : Type 0
BothRead = run logic (genesis logic) both_1 ≡ both_1_result

-- L both 100 2
abbrev pub both_2 : Tx
both_2 = transaction 100 (tx_call 0 0 (2 ∷ []) ∷ [])

-- a false left side of `&&`: the right side is not evaluated
abbrev pub both_2_result : RunResult
both_2_result = record {
  outcome = Answer 0;
  fuel = 5;
  store = (x, 3) ∷ (f, 1) ∷ [];
  steps = [];
  invocations = invocation 0 0 (2 ∷ []) (Some 0) [] 5 ∷ [];
  reads = [];
  writes = [];
}

abbrev pub RightSkipped : Type 0
RightSkipped = run logic (genesis logic) both_2 ≡ both_2_result

-- L either 100 1
abbrev pub either_1 : Tx
either_1 = transaction 100 (tx_call 0 1 (1 ∷ []) ∷ [])

-- a false left side of `||`: the right side is evaluated
abbrev pub either_1_result : RunResult
either_1_result = record {
  outcome = Answer 0;
  fuel = 10;
  store = (x, 3) ∷ (f, 1) ∷ [];
  steps = read_step 0 x 3 ∷ [];
  invocations = invocation 0 1 (1 ∷ []) (Some 0) [] 10 ∷ [];
  reads = (x, 3) ∷ [];
  writes = [];
}

abbrev pub OtherRead : Type 0
OtherRead = run logic (genesis logic) either_1 ≡ either_1_result

-- L either 100 2
abbrev pub either_2 : Tx
either_2 = transaction 100 (tx_call 0 1 (2 ∷ []) ∷ [])

-- a true left side of `||`: the right side is not evaluated
abbrev pub either_2_result : RunResult
either_2_result = record {
  outcome = Answer 1;
  fuel = 5;
  store = (x, 3) ∷ (f, 1) ∷ [];
  steps = [];
  invocations = invocation 0 1 (2 ∷ []) (Some 1) [] 5 ∷ [];
  reads = [];
  writes = [];
}

abbrev pub OtherSkipped : Type 0
OtherSkipped = run logic (genesis logic) either_2 ≡ either_2_result

-- L three 100 2
abbrev pub three_2 : Tx
three_2 = transaction 100 (tx_call 0 2 (2 ∷ []) ∷ [])

-- three parts, the last one a `!`
abbrev pub three_2_result : RunResult
three_2_result = record {
  outcome = Answer 0;
  fuel = 13;
  store = (x, 3) ∷ (f, 1) ∷ [];
  steps = read_step 0 f 1 ∷ [];
  invocations = invocation 0 2 (2 ∷ []) (Some 0) [] 13 ∷ [];
  reads = (f, 1) ∷ [];
  writes = [];
}

abbrev pub AllThree : Type 0
AllThree = run logic (genesis logic) three_2 ≡ three_2_result

-- L three 100 6
abbrev pub three_6 : Tx
three_6 = transaction 100 (tx_call 0 2 (6 ∷ []) ∷ [])

-- the first of three parts is false: one more charge, and no more parts
abbrev pub three_6_result : RunResult
three_6_result = record {
  outcome = Answer 0;
  fuel = 5;
  store = (x, 3) ∷ (f, 1) ∷ [];
  steps = [];
  invocations = invocation 0 2 (6 ∷ []) (Some 0) [] 5 ∷ [];
  reads = [];
  writes = [];
}

abbrev pub NoneOfThree : Type 0
NoneOfThree = run logic (genesis logic) three_6 ≡ three_6_result

-- L choose 100 0
abbrev pub choose_0 : Tx
choose_0 = transaction 100 (tx_call 0 3 (0 ∷ []) ∷ [])

-- the first arm, which returns
abbrev pub choose_0_result : RunResult
choose_0_result = record {
  outcome = Answer 10;
  fuel = 6;
  store = (x, 3) ∷ (f, 1) ∷ [];
  steps = [];
  invocations = invocation 0 3 (0 ∷ []) (Some 10) [] 6 ∷ [];
  reads = [];
  writes = [];
}

abbrev pub FirstArm : Type 0
FirstArm = run logic (genesis logic) choose_0 ≡ choose_0_result

-- L choose 100 1
abbrev pub choose_1 : Tx
choose_1 = transaction 100 (tx_call 0 3 (1 ∷ []) ∷ [])

-- the second arm, after both conditions
abbrev pub choose_1_result : RunResult
choose_1_result = record {
  outcome = Answer 20;
  fuel = 17;
  store = (x, 20) ∷ (f, 1) ∷ [];
  steps = write_step 0 x 20 ∷ read_step 0 x 20 ∷ [];
  invocations = invocation 0 3 (1 ∷ []) (Some 20) [] 17 ∷ [];
  reads = [];
  writes = (x, 20) ∷ [];
}

abbrev pub SecondArm : Type 0
SecondArm = run logic (genesis logic) choose_1 ≡ choose_1_result

-- L choose 100 2
abbrev pub choose_2 : Tx
choose_2 = transaction 100 (tx_call 0 3 (2 ∷ []) ∷ [])

-- the `else`
abbrev pub choose_2_result : RunResult
choose_2_result = record {
  outcome = Answer 30;
  fuel = 17;
  store = (x, 30) ∷ (f, 1) ∷ [];
  steps = write_step 0 x 30 ∷ read_step 0 x 30 ∷ [];
  invocations = invocation 0 3 (2 ∷ []) (Some 30) [] 17 ∷ [];
  reads = [];
  writes = (x, 30) ∷ [];
}

abbrev pub LastBlock : Type 0
LastBlock = run logic (genesis logic) choose_2 ≡ choose_2_result

-- L silent 100 4
abbrev pub silent_4 : Tx
silent_4 = transaction 100 (tx_call 0 4 (4 ∷ []) ∷ [])

-- a method that runs to its end without a `return` answers 0
abbrev pub silent_4_result : RunResult
silent_4_result = record {
  outcome = Answer 0;
  fuel = 10;
  store = (x, 4) ∷ (f, 1) ∷ [];
  steps = write_step 0 x 4 ∷ [];
  invocations = invocation 0 4 (4 ∷ []) (Some 0) [] 10 ∷ [];
  reads = [];
  writes = (x, 4) ∷ [];
}

abbrev pub EndsSilently : Type 0
EndsSilently = run logic (genesis logic) silent_4 ≡ silent_4_result

-- L silent 100 0
abbrev pub silent_0 : Tx
silent_0 = transaction 100 (tx_call 0 4 (0 ∷ []) ∷ [])

-- an `if` without an `else`, and a `return` from inside
abbrev pub silent_0_result : RunResult
silent_0_result = record {
  outcome = Answer 5;
  fuel = 6;
  store = (x, 3) ∷ (f, 1) ∷ [];
  steps = [];
  invocations = invocation 0 4 (0 ∷ []) (Some 5) [] 6 ∷ [];
  reads = [];
  writes = [];
}

abbrev pub NoElse : Type 0
NoElse = run logic (genesis logic) silent_0 ≡ silent_0_result
