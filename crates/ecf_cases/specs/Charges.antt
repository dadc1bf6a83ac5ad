-- Fuel that ends at a charge: what comes before it is done, and what comes behind it is not.
use Rattle.std.specs.Prelude.{◌≡◌, ℕ, [], ◌∷◌, List, None}
use Rattle.ecf_cases.specs.Words.{contract, signature, object, num_field, flag_field, map_field, with_first, method, num, local, field, object_name, at, no, plus, times, compare, all_of, any_of, internal_call, let_num, let_try, set_local, set_field, set_at, when, while, returns, reverts, call_only, self_only, transaction, tx_call, invocation}
use Rattle.ecf_lang.specs.Genesis.{genesis}
use Rattle.ecf_lang.specs.Meaning.{run, RunResult}
use Rattle.ecf_lang.specs.Store.{Cells}
use Rattle.ecf_lang.specs.declared.cell.Cell.{Cell}
use Rattle.ecf_lang.specs.declared.run.Cause.TheVariants.{NoMethod}
use Rattle.ecf_lang.specs.declared.run.Outcome.TheVariants.{Reverted, OutOfFuel}
use Rattle.ecf_lang.specs.declared.run.Step.{Step}
use Rattle.ecf_lang.specs.declared.tree.Op.TheVariants.{Eq}
use Rattle.ecf_lang.specs.declared.tree.Ty.TheVariants.{Num, Flag}
use Rattle.ecf_lang.specs.declared.tx.Tx.{Tx}
use Rattle.ecf_lang.specs.declared.typed.Typed.{Typed}
use Rattle.ecf_lang.specs.declared.typed.TypedStmt.{TypedStmt}
use Rattle.ecf_verdicts.specs.Words.{cell, read_step}

-- object A {
--   num x = 7;
--   num y = 8;
--   flag f = true;
--   map m: num -> num;
--   method keep(): num { let n: num = x; return 0; }
--   method keep_again(): num { let n: num = 0; n = x; return 0; }
--   method set(): num { y = x; return 0; }
--   method set_map(): num { m[x] = y; return 0; }
--   method test(): num { if x == 0 { return 1; } return 0; }
--   method turn(): num { while x == 0 { return 1; } return 0; }
--   method answer(): num { return x; }
--   method stop(): num { revert x; }
--   method own_only(): num { self.id(x); return 0; }
--   method call_only(): num { call B.id(x); return 0; }
--   method attempt(): num { let ok: flag = try B.id(x); return 0; }
--   method read_map(): num { return m[x]; }
--   method add(): num { return x + y; }
--   method multiply(): num { return x * y; }
--   method compare(): flag { return x == y; }
--   method negate(): flag { return ! f; }
--   method both(): flag { return f && f; }
--   method either(): flag { return ! f || f; }
--   method own_answer(): num { return self.id(x); }
--   method big(): num { return 340282366920938463463374607431768211455 + 1; }
--   method own_missing(): num { self.gone(); return 0; }
--   method call_missing(): num { call B.gone(); return 0; }
--   method try_missing(): num { let ok: flag = try B.gone(); return 0; }
--   method id(n: num): num { return n; }
-- }
-- object B {
--   method id(n: num): num { return n; }
-- }

-- keep of A
abbrev pub charges_keep : List TypedStmt
charges_keep = let_num 0 (field 0) ∷ returns (num 0) ∷ []

-- keep_again of A
abbrev pub charges_keep_again : List TypedStmt
charges_keep_again = let_num 0 (num 0) ∷ set_local 0 (field 0) ∷ returns (num 0) ∷ []

-- set of A
abbrev pub charges_set : List TypedStmt
charges_set = set_field 1 (field 0) ∷ returns (num 0) ∷ []

-- set_map of A
abbrev pub charges_set_map : List TypedStmt
charges_set_map = set_at 3 (field 0) (field 1) ∷ returns (num 0) ∷ []

-- test of A
abbrev pub charges_test : List TypedStmt
charges_test = when (compare (field 0) Eq (num 0)) (returns (num 1) ∷ []) ∷ returns (num 0) ∷ []

-- turn of A
abbrev pub charges_turn : List TypedStmt
charges_turn =
    while (compare (field 0) Eq (num 0)) (returns (num 1) ∷ [])
    ∷ returns (num 0)
    ∷ []

-- answer of A
abbrev pub charges_answer : List TypedStmt
charges_answer = returns (field 0) ∷ []

-- stop of A
abbrev pub charges_stop : List TypedStmt
charges_stop = reverts (field 0) ∷ []

-- own_only of A
abbrev pub charges_own_only : List TypedStmt
charges_own_only = self_only 23 (field 0 ∷ []) ∷ returns (num 0) ∷ []

-- call_only of A
abbrev pub charges_call_only : List TypedStmt
charges_call_only = call_only (object_name 1) 23 (field 0 ∷ []) ∷ returns (num 0) ∷ []

-- attempt of A
abbrev pub charges_attempt : List TypedStmt
charges_attempt = let_try 0 (object_name 1) 23 (field 0 ∷ []) ∷ returns (num 0) ∷ []

-- read_map of A
abbrev pub charges_read_map : List TypedStmt
charges_read_map = returns (at 3 (field 0)) ∷ []

-- add of A
abbrev pub charges_add : List TypedStmt
charges_add = returns (plus (field 0) (field 1)) ∷ []

-- multiply of A
abbrev pub charges_multiply : List TypedStmt
charges_multiply = returns (times (field 0) (field 1)) ∷ []

-- compare of A
abbrev pub charges_compare : List TypedStmt
charges_compare = returns (compare (field 0) Eq (field 1)) ∷ []

-- negate of A
abbrev pub charges_negate : List TypedStmt
charges_negate = returns (no (field 2)) ∷ []

-- both of A
abbrev pub charges_both : List TypedStmt
charges_both = returns (all_of (field 2 ∷ field 2 ∷ [])) ∷ []

-- either of A
abbrev pub charges_either : List TypedStmt
charges_either = returns (any_of (no (field 2) ∷ field 2 ∷ [])) ∷ []

-- own_answer of A
abbrev pub charges_own_answer : List TypedStmt
charges_own_answer = returns (internal_call 23 (field 0 ∷ [])) ∷ []

-- big of A
abbrev pub charges_big : List TypedStmt
charges_big = returns (plus (num 340282366920938463463374607431768211455) (num 1)) ∷ []

-- own_missing of A
abbrev pub charges_own_missing : List TypedStmt
charges_own_missing = self_only 24 [] ∷ returns (num 0) ∷ []

-- call_missing of A
abbrev pub charges_call_missing : List TypedStmt
charges_call_missing = call_only (object_name 1) 24 [] ∷ returns (num 0) ∷ []

-- try_missing of A
abbrev pub charges_try_missing : List TypedStmt
charges_try_missing = let_try 0 (object_name 1) 24 [] ∷ returns (num 0) ∷ []

-- id of A
abbrev pub charges_a_id : List TypedStmt
charges_a_id = returns (local 0) ∷ []

-- id of B
abbrev pub charges_b_id : List TypedStmt
charges_b_id = returns (local 0) ∷ []

-- the contract
abbrev pub charges : Typed
charges = contract
    (signature [] Num ∷ signature [] Num ∷ signature [] Num ∷ signature [] Num ∷ signature [] Num ∷ signature [] Num
    ∷ signature [] Num ∷ signature [] Num ∷ signature [] Num ∷ signature [] Num ∷ signature [] Num ∷ signature [] Num
    ∷ signature [] Num ∷ signature [] Num ∷ signature [] Flag ∷ signature [] Flag ∷ signature [] Flag ∷ signature [] Flag
    ∷ signature [] Num ∷ signature [] Num ∷ signature [] Num ∷ signature [] Num ∷ signature [] Num ∷ signature (Num ∷ []) Num
    ∷ signature [] Num ∷ [])
    (object
    (with_first ((0, 7) ∷ []) num_field ∷ with_first ((0, 8) ∷ []) num_field ∷ with_first ((0, 1) ∷ []) flag_field ∷ map_field Num Num ∷ []) (
    method 0 1 charges_keep
    ∷ method 1 1 charges_keep_again
    ∷ method 2 0 charges_set
    ∷ method 3 0 charges_set_map
    ∷ method 4 0 charges_test
    ∷ method 5 0 charges_turn
    ∷ method 6 0 charges_answer
    ∷ method 7 0 charges_stop
    ∷ method 8 0 charges_own_only
    ∷ method 9 0 charges_call_only
    ∷ method 10 1 charges_attempt
    ∷ method 11 0 charges_read_map
    ∷ method 12 0 charges_add
    ∷ method 13 0 charges_multiply
    ∷ method 14 0 charges_compare
    ∷ method 15 0 charges_negate
    ∷ method 16 0 charges_both
    ∷ method 17 0 charges_either
    ∷ method 18 0 charges_own_answer
    ∷ method 19 0 charges_big
    ∷ method 20 0 charges_own_missing
    ∷ method 21 0 charges_call_missing
    ∷ method 22 1 charges_try_missing
    ∷ method 23 1 charges_a_id ∷ [])
    ∷ object [] (method 23 1 charges_b_id ∷ []) ∷ [])

-- x of A
abbrev pub x : Cell
x = cell 0 0 0

-- y of A
abbrev pub y : Cell
y = cell 0 1 0

-- f of A
abbrev pub f : Cell
f = cell 0 2 0

-- m of A, by its key
abbrev pub m : ℕ → Cell
m key = cell 0 3 key

-- a call of a method of A, by its number in the text from 0, with so much fuel
abbrev pub ask : ℕ → ℕ → Tx
ask name fuel = transaction fuel (tx_call 0 name [] ∷ [])

-- fuel ends in a method of A, after these charges, steps and reads
abbrev pub end_result : ℕ → ℕ → ℕ → List Step → Cells → RunResult
end_result name fuel own_fuel made seen = record {
  outcome = OutOfFuel;
  fuel = fuel;
  store = genesis charges;
  steps = made;
  invocations = invocation 0 name [] None [] own_fuel ∷ [];
  reads = seen;
  writes = [];
}

-- a `let` is charged before its value
abbrev pub ChargedBeforeLet : Type 0
ChargedBeforeLet = run charges (genesis charges) (ask 0 3) ≡ end_result 0 3 1 [] []

-- an assignment to a field is charged before its value
abbrev pub ChargedBeforeSet : Type 0
ChargedBeforeSet = run charges (genesis charges) (ask 2 3) ≡ end_result 2 3 1 [] []

-- an assignment to an element is charged before its index
abbrev pub ChargedBeforeSetMap : Type 0
ChargedBeforeSetMap = run charges (genesis charges) (ask 3 3) ≡ end_result 3 3 1 [] []

-- an `if` is charged before its condition
abbrev pub ChargedBeforeIf : Type 0
ChargedBeforeIf = run charges (genesis charges) (ask 4 3) ≡ end_result 4 3 1 [] []

-- a `while` is charged before its condition
abbrev pub ChargedBeforeWhile : Type 0
ChargedBeforeWhile = run charges (genesis charges) (ask 5 3) ≡ end_result 5 3 1 [] []

-- a `return` is charged before its value
abbrev pub ChargedBeforeReturn : Type 0
ChargedBeforeReturn = run charges (genesis charges) (ask 6 3) ≡ end_result 6 3 1 [] []

-- a `revert` is charged before its number
abbrev pub ChargedBeforeRevert : Type 0
ChargedBeforeRevert = run charges (genesis charges) (ask 7 3) ≡ end_result 7 3 1 [] []

-- a call as a statement is charged before its arguments
abbrev pub ChargedBeforeDo : Type 0
ChargedBeforeDo = run charges (genesis charges) (ask 8 3) ≡ end_result 8 3 1 [] []

-- a `try` is charged before its arguments
abbrev pub ChargedBeforeTry : Type 0
ChargedBeforeTry = run charges (genesis charges) (ask 10 3) ≡ end_result 10 3 2 [] []

-- an assignment to a local is charged before its value
abbrev pub ChargedBeforeSetLocal : Type 0
ChargedBeforeSetLocal = run charges (genesis charges) (ask 1 5) ≡ end_result 1 5 3 [] []

-- the value of an assignment comes before the charge of the write
abbrev pub ValueBeforeWriteCharge : Type 0
ValueBeforeWriteCharge = run charges (genesis charges) (ask 2 4) ≡ end_result 2 4 4 (read_step 0 x 7 ∷ []) ((x, 7) ∷ [])

-- the charge of a write comes before the write
abbrev pub WriteCharge : Type 0
WriteCharge = run charges (genesis charges) (ask 2 7) ≡ end_result 2 7 4 (read_step 0 x 7 ∷ []) ((x, 7) ∷ [])

-- index and value of an assignment come before the charge of the write
abbrev pub IndexAndValueFirst : Type 0
IndexAndValueFirst = run charges (genesis charges) (ask 3 7) ≡ end_result 3 7 7 (read_step 0 x 7 ∷ read_step 0 y 8 ∷ []) ((x, 7) ∷ (y, 8) ∷ [])

-- the charge of a write of a map comes before the write
abbrev pub MapWriteCharge : Type 0
MapWriteCharge = run charges (genesis charges) (ask 3 10) ≡ end_result 3 10 7 (read_step 0 x 7 ∷ read_step 0 y 8 ∷ []) ((x, 7) ∷ (y, 8) ∷ [])

-- the condition of a loop comes before the charge of the turn
abbrev pub ConditionBeforeTurn : Type 0
ConditionBeforeTurn = run charges (genesis charges) (ask 5 4) ≡ end_result 5 4 4 (read_step 0 x 7 ∷ []) ((x, 7) ∷ [])

-- the index comes before the charge of a read of a map
abbrev pub IndexBeforeReadCharge : Type 0
IndexBeforeReadCharge = run charges (genesis charges) (ask 11 4) ≡ end_result 11 4 4 (read_step 0 x 7 ∷ []) ((x, 7) ∷ [])

-- the charge of a read of a map comes before the read
abbrev pub MapReadCharge : Type 0
MapReadCharge = run charges (genesis charges) (ask 11 6) ≡ end_result 11 6 4 (read_step 0 x 7 ∷ []) ((x, 7) ∷ [])

-- the parts of a sum come before the charge of the operator
abbrev pub PartsBeforeSum : Type 0
PartsBeforeSum = run charges (genesis charges) (ask 12 7) ≡ end_result 12 7 7 (read_step 0 x 7 ∷ read_step 0 y 8 ∷ []) ((x, 7) ∷ (y, 8) ∷ [])

-- the parts of a product come before the charge of the operator
abbrev pub PartsBeforeProduct : Type 0
PartsBeforeProduct = run charges (genesis charges) (ask 13 7) ≡ end_result 13 7 7 (read_step 0 x 7 ∷ read_step 0 y 8 ∷ []) ((x, 7) ∷ (y, 8) ∷ [])

-- both sides of a comparison come before its charge
abbrev pub SidesBeforeComparison : Type 0
SidesBeforeComparison = run charges (genesis charges) (ask 14 7) ≡ end_result 14 7 7 (read_step 0 x 7 ∷ read_step 0 y 8 ∷ []) ((x, 7) ∷ (y, 8) ∷ [])

-- what stands under a `!` comes before its charge
abbrev pub InnerBeforeNot : Type 0
InnerBeforeNot = run charges (genesis charges) (ask 15 4) ≡ end_result 15 4 4 (read_step 0 f 1 ∷ []) ((f, 1) ∷ [])

-- in an `&&` the charge comes before the further part
abbrev pub AndCharge : Type 0
AndCharge = run charges (genesis charges) (ask 16 6) ≡ end_result 16 6 5 (read_step 0 f 1 ∷ []) ((f, 1) ∷ [])

-- in an `||` the charge comes before the further part
abbrev pub OrCharge : Type 0
OrCharge = run charges (genesis charges) (ask 17 7) ≡ end_result 17 7 6 (read_step 0 f 1 ∷ []) ((f, 1) ∷ [])

-- the arguments of an internal call come before its charge
abbrev pub ArgumentsBeforeInternalCharge : Type 0
ArgumentsBeforeInternalCharge = run charges (genesis charges) (ask 18 6) ≡ end_result 18 6 4 (read_step 0 x 7 ∷ []) ((x, 7) ∷ [])

-- the arguments of an external call come before its charge, and no invocation is opened before it
abbrev pub ArgumentsBeforeCallCharge : Type 0
ArgumentsBeforeCallCharge = run charges (genesis charges) (ask 9 14) ≡ end_result 9 14 5 (read_step 0 x 7 ∷ []) ((x, 7) ∷ [])

-- the arguments of a `try` come before its charge, whose want is not caught
abbrev pub ArgumentsBeforeTryCharge : Type 0
ArgumentsBeforeTryCharge = run charges (genesis charges) (ask 10 14) ≡ end_result 10 14 5 (read_step 0 x 7 ∷ []) ((x, 7) ∷ [])

-- the charge of an operator comes before its overflow
abbrev pub OperatorCharge : Type 0
OperatorCharge = run charges (genesis charges) (ask 19 3) ≡ end_result 19 3 3 [] []

-- the charge of an internal call comes before the test for the method
abbrev pub InternalTestCharge : Type 0
InternalTestCharge = run charges (genesis charges) (ask 20 4) ≡ end_result 20 4 1 [] []

-- the charge of an external call comes before the test for the method
abbrev pub TestCharge : Type 0
TestCharge = run charges (genesis charges) (ask 21 12) ≡ end_result 21 12 2 [] []

-- the charge of a `try` comes before the test for the method
abbrev pub TryTestCharge : Type 0
TryTestCharge = run charges (genesis charges) (ask 22 12) ≡ end_result 22 12 2 [] []

-- A call_missing 13
abbrev pub with_one_more : Tx
with_one_more = transaction 13 (tx_call 0 21 [] ∷ [])

-- with the charge of the call paid, the test for the method is made
abbrev pub with_one_more_result : RunResult
with_one_more_result = record {
  outcome = Reverted NoMethod;
  fuel = 13;
  store = (x, 7) ∷ (y, 8) ∷ (f, 1) ∷ [];
  steps = [];
  invocations = invocation 0 21 [] None [] 13 ∷ [];
  reads = [];
  writes = [];
}

abbrev pub PaidTest : Type 0
PaidTest = run charges (genesis charges) with_one_more ≡ with_one_more_result
