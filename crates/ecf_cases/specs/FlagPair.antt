-- Flags that are neither 0 nor 1.
use Rattle.std.specs.Prelude.{◌≡◌, [], ◌∷◌, List, Some}
use Rattle.ecf_cases.specs.Words.{contract, signature, object, flag_field, method, field, no, all_of, any_of, returns, transaction, tx_call, invocation}
use Rattle.ecf_lang.specs.Meaning.{run, RunResult}
use Rattle.ecf_lang.specs.Store.{Store}
use Rattle.ecf_lang.specs.declared.cell.Cell.{Cell}
use Rattle.ecf_lang.specs.declared.run.Outcome.TheVariants.{Answer}
use Rattle.ecf_lang.specs.declared.tree.Ty.TheVariants.{Flag}
use Rattle.ecf_lang.specs.declared.tx.Tx.{Tx}
use Rattle.ecf_lang.specs.declared.typed.Typed.{Typed}
use Rattle.ecf_lang.specs.declared.typed.TypedStmt.{TypedStmt}
use Rattle.ecf_verdicts.specs.Words.{cell, read_step}

-- object G {
--   flag a;
--   flag b;
--   method both(): flag { return a && b; }
--   method either(): flag { return a || b; }
--   method not_a(): flag { return ! a; }
-- }

-- both of G
abbrev pub flag_pair_both : List TypedStmt
flag_pair_both = returns (all_of (field 0 ∷ field 1 ∷ [])) ∷ []

-- either of G
abbrev pub flag_pair_either : List TypedStmt
flag_pair_either = returns (any_of (field 0 ∷ field 1 ∷ [])) ∷ []

-- not_a of G
abbrev pub flag_pair_not_a : List TypedStmt
flag_pair_not_a = returns (no (field 0)) ∷ []

-- the contract
abbrev pub flag_pair : Typed
flag_pair = contract
    (signature [] Flag ∷ signature [] Flag ∷ signature [] Flag ∷ [])
    (object (flag_field ∷ flag_field ∷ []) (method 0 0 flag_pair_both ∷ method 1 0 flag_pair_either ∷ method 2 0 flag_pair_not_a ∷ []) ∷ [])

-- a of G
abbrev pub a : Cell
a = cell 0 0 0

-- b of G
abbrev pub b : Cell
b = cell 0 1 0

-- a store whose flags are neither 0 nor 1
abbrev pub odd_flags : Store
odd_flags = (a, 7) ∷ (b, 9) ∷ []

-- G both 100
abbrev pub ask_both : Tx
ask_both = transaction 100 (tx_call 0 0 [] ∷ [])

-- any number but 0 counts as true, and `&&` has the value of the last part evaluated
abbrev pub ask_both_result : RunResult
ask_both_result = record {
  outcome = Answer 9;
  fuel = 8;
  store = (a, 7) ∷ (b, 9) ∷ [];
  steps = read_step 0 a 7 ∷ read_step 0 b 9 ∷ [];
  invocations = invocation 0 0 [] (Some 9) [] 8 ∷ [];
  reads = (a, 7) ∷ (b, 9) ∷ [];
  writes = [];
}

abbrev pub OddBoth : Type 0
OddBoth = run flag_pair odd_flags ask_both ≡ ask_both_result

-- G either 100
abbrev pub ask_either : Tx
ask_either = transaction 100 (tx_call 0 1 [] ∷ [])

-- `||` has the value of the last part evaluated, too
abbrev pub ask_either_result : RunResult
ask_either_result = record {
  outcome = Answer 7;
  fuel = 5;
  store = (a, 7) ∷ (b, 9) ∷ [];
  steps = read_step 0 a 7 ∷ [];
  invocations = invocation 0 1 [] (Some 7) [] 5 ∷ [];
  reads = (a, 7) ∷ [];
  writes = [];
}

abbrev pub OddEither : Type 0
OddEither = run flag_pair odd_flags ask_either ≡ ask_either_result

-- G not_a 100
abbrev pub ask_not_a : Tx
ask_not_a = transaction 100 (tx_call 0 2 [] ∷ [])

-- `!` gives 0 or 1
abbrev pub ask_not_a_result : RunResult
ask_not_a_result = record {
  outcome = Answer 0;
  fuel = 5;
  store = (a, 7) ∷ (b, 9) ∷ [];
  steps = read_step 0 a 7 ∷ [];
  invocations = invocation 0 2 [] (Some 0) [] 5 ∷ [];
  reads = (a, 7) ∷ [];
  writes = [];
}

abbrev pub OddNot : Type 0
OddNot = run flag_pair odd_flags ask_not_a ≡ ask_not_a_result
