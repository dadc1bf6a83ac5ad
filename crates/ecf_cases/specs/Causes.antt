-- Runs that revert, each for its cause.
use Rattle.std.specs.Prelude.{◌≡◌, [], ◌∷◌, List, Some, None}
use Rattle.ecf_cases.specs.Words.{contract, signature, object, num_field, with_first, method, num, field, object_name, plus, minus, times, over, modulo, set_field, returns, reverts, call_only, transaction, tx_call, invocation}
use Rattle.ecf_lang.specs.Genesis.{genesis}
use Rattle.ecf_lang.specs.Meaning.{run, RunResult}
use Rattle.ecf_lang.specs.declared.cell.Cell.{Cell}
use Rattle.ecf_lang.specs.declared.run.Cause.TheVariants.{User, Overflow, DivZero, NoMethod}
use Rattle.ecf_lang.specs.declared.run.Outcome.TheVariants.{Reverted}
use Rattle.ecf_lang.specs.declared.tree.Ty.TheVariants.{Num}
use Rattle.ecf_lang.specs.declared.tx.Tx.{Tx}
use Rattle.ecf_lang.specs.declared.typed.Typed.{Typed}
use Rattle.ecf_lang.specs.declared.typed.TypedStmt.{TypedStmt}
use Rattle.ecf_verdicts.specs.Words.{cell, read_step, write_step}

-- object M {
--   num x = 7;
--   method over(): num { x = 0; return 340282366920938463463374607431768211455 + 1; }
--   method under(): num { x = 0; return 1 - 2; }
--   method much(): num { x = 0; return 18446744073709551616 * 18446744073709551616; }
--   method div(): num { x = 0; return 1 / 0; }
--   method rem(): num { x = 0; return 1 % 0; }
--   method gone(): num { x = 0; call N.over(); return 0; }
--   method own(): num { x = 0; revert x + 3; }
--   method fine(): num { x = 0; return 4; }
-- }
-- object N {
--   method leaf(): num { return 0; }
-- }

-- over of M
abbrev pub causes_over : List TypedStmt
causes_over =
    set_field 0 (num 0)
    ∷ returns (plus (num 340282366920938463463374607431768211455) (num 1))
    ∷ []

-- under of M
abbrev pub causes_under : List TypedStmt
causes_under = set_field 0 (num 0) ∷ returns (minus (num 1) (num 2)) ∷ []

-- much of M
abbrev pub causes_much : List TypedStmt
causes_much =
    set_field 0 (num 0)
    ∷ returns (times (num 18446744073709551616) (num 18446744073709551616))
    ∷ []

-- div of M
abbrev pub causes_div : List TypedStmt
causes_div = set_field 0 (num 0) ∷ returns (over (num 1) (num 0)) ∷ []

-- rem of M
abbrev pub causes_rem : List TypedStmt
causes_rem = set_field 0 (num 0) ∷ returns (modulo (num 1) (num 0)) ∷ []

-- gone of M
abbrev pub causes_gone : List TypedStmt
causes_gone = set_field 0 (num 0) ∷ call_only (object_name 1) 0 [] ∷ returns (num 0) ∷ []

-- own of M
abbrev pub causes_own : List TypedStmt
causes_own = set_field 0 (num 0) ∷ reverts (plus (field 0) (num 3)) ∷ []

-- fine of M
abbrev pub causes_fine : List TypedStmt
causes_fine = set_field 0 (num 0) ∷ returns (num 4) ∷ []

-- leaf of N
abbrev pub causes_leaf : List TypedStmt
causes_leaf = returns (num 0) ∷ []

-- the contract
abbrev pub causes : Typed
causes = contract
    (signature [] Num ∷ signature [] Num ∷ signature [] Num ∷ signature [] Num ∷ signature [] Num ∷ signature [] Num
    ∷ signature [] Num ∷ signature [] Num ∷ signature [] Num ∷ [])
    (object (with_first ((0, 7) ∷ []) num_field ∷ []) (
    method 0 0 causes_over
    ∷ method 1 0 causes_under
    ∷ method 2 0 causes_much
    ∷ method 3 0 causes_div
    ∷ method 4 0 causes_rem
    ∷ method 5 0 causes_gone
    ∷ method 6 0 causes_own
    ∷ method 7 0 causes_fine ∷ [])
    ∷ object [] (method 8 0 causes_leaf ∷ []) ∷ [])

-- x of M
abbrev pub x : Cell
x = cell 0 0 0

-- M over 100
abbrev pub ask_over : Tx
ask_over = transaction 100 (tx_call 0 0 [] ∷ [])

-- a sum of 2^128
abbrev pub ask_over_result : RunResult
ask_over_result = record {
  outcome = Reverted Overflow;
  fuel = 10;
  store = (x, 7) ∷ [];
  steps = write_step 0 x 0 ∷ [];
  invocations = invocation 0 0 [] None [] 10 ∷ [];
  reads = [];
  writes = [];
}

abbrev pub SumOverflows : Type 0
SumOverflows = run causes (genesis causes) ask_over ≡ ask_over_result

-- M under 100
abbrev pub ask_under : Tx
ask_under = transaction 100 (tx_call 0 1 [] ∷ [])

-- a difference below 0
abbrev pub ask_under_result : RunResult
ask_under_result = record {
  outcome = Reverted Overflow;
  fuel = 10;
  store = (x, 7) ∷ [];
  steps = write_step 0 x 0 ∷ [];
  invocations = invocation 0 1 [] None [] 10 ∷ [];
  reads = [];
  writes = [];
}

abbrev pub DifferenceOverflows : Type 0
DifferenceOverflows = run causes (genesis causes) ask_under ≡ ask_under_result

-- M much 100
abbrev pub ask_much : Tx
ask_much = transaction 100 (tx_call 0 2 [] ∷ [])

-- a product of 2^128
abbrev pub ask_much_result : RunResult
ask_much_result = record {
  outcome = Reverted Overflow;
  fuel = 10;
  store = (x, 7) ∷ [];
  steps = write_step 0 x 0 ∷ [];
  invocations = invocation 0 2 [] None [] 10 ∷ [];
  reads = [];
  writes = [];
}

abbrev pub ProductOverflows : Type 0
ProductOverflows = run causes (genesis causes) ask_much ≡ ask_much_result

-- M div 100
abbrev pub ask_div : Tx
ask_div = transaction 100 (tx_call 0 3 [] ∷ [])

-- a quotient by 0
abbrev pub ask_div_result : RunResult
ask_div_result = record {
  outcome = Reverted DivZero;
  fuel = 10;
  store = (x, 7) ∷ [];
  steps = write_step 0 x 0 ∷ [];
  invocations = invocation 0 3 [] None [] 10 ∷ [];
  reads = [];
  writes = [];
}

abbrev pub DividesByZero : Type 0
DividesByZero = run causes (genesis causes) ask_div ≡ ask_div_result

-- M rem 100
abbrev pub ask_rem : Tx
ask_rem = transaction 100 (tx_call 0 4 [] ∷ [])

-- a remainder by 0
abbrev pub ask_rem_result : RunResult
ask_rem_result = record {
  outcome = Reverted DivZero;
  fuel = 10;
  store = (x, 7) ∷ [];
  steps = write_step 0 x 0 ∷ [];
  invocations = invocation 0 4 [] None [] 10 ∷ [];
  reads = [];
  writes = [];
}

abbrev pub RemainderByZero : Type 0
RemainderByZero = run causes (genesis causes) ask_rem ≡ ask_rem_result

-- M gone 100
abbrev pub ask_gone : Tx
ask_gone = transaction 100 (tx_call 0 5 [] ∷ [])

-- a call of a method that the object has not: its charge is taken, and no invocation opened
abbrev pub ask_gone_result : RunResult
ask_gone_result = record {
  outcome = Reverted NoMethod;
  fuel = 19;
  store = (x, 7) ∷ [];
  steps = write_step 0 x 0 ∷ [];
  invocations = invocation 0 5 [] None [] 19 ∷ [];
  reads = [];
  writes = [];
}

abbrev pub WantsMethod : Type 0
WantsMethod = run causes (genesis causes) ask_gone ≡ ask_gone_result

-- M own 100
abbrev pub ask_own : Tx
ask_own = transaction 100 (tx_call 0 6 [] ∷ [])

-- a `revert`, with the number that it evaluates to
abbrev pub ask_own_result : RunResult
ask_own_result = record {
  outcome = Reverted (User 3);
  fuel = 12;
  store = (x, 7) ∷ [];
  steps = write_step 0 x 0 ∷ read_step 0 x 0 ∷ [];
  invocations = invocation 0 6 [] None [] 12 ∷ [];
  reads = [];
  writes = [];
}

abbrev pub RevertsItself : Type 0
RevertsItself = run causes (genesis causes) ask_own ≡ ask_own_result

-- M fine 100 ; M div
abbrev pub fine_then_div : Tx
fine_then_div = transaction 100 (tx_call 0 7 [] ∷ tx_call 0 3 [] ∷ [])

-- a revert of the second call: the first one has written nothing either
abbrev pub fine_then_div_result : RunResult
fine_then_div_result = record {
  outcome = Reverted DivZero;
  fuel = 18;
  store = (x, 7) ∷ [];
  steps = write_step 0 x 0
      ∷ write_step 1 x 0 ∷ [];
  invocations = invocation 0 7 [] (Some 4) [] 8
      ∷ invocation 0 3 [] None [] 10 ∷ [];
  reads = [];
  writes = [];
}

abbrev pub SecondReverts : Type 0
SecondReverts = run causes (genesis causes) fine_then_div ≡ fine_then_div_result

-- M div 100 ; M fine
abbrev pub div_then_fine : Tx
div_then_fine = transaction 100 (tx_call 0 3 [] ∷ tx_call 0 7 [] ∷ [])

-- a revert of the first call: the second one does not begin
abbrev pub div_then_fine_result : RunResult
div_then_fine_result = record {
  outcome = Reverted DivZero;
  fuel = 10;
  store = (x, 7) ∷ [];
  steps = write_step 0 x 0 ∷ [];
  invocations = invocation 0 3 [] None [] 10 ∷ [];
  reads = [];
  writes = [];
}

abbrev pub FirstReverts : Type 0
FirstReverts = run causes (genesis causes) div_then_fine ≡ div_then_fine_result
