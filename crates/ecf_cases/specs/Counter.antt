-- A counter, bumped: alone, twice in one transaction, in two transactions, and with too little fuel.
use Rattle.std.specs.Prelude.{◌≡◌, [], ◌∷◌, List, Some, None}
use Rattle.ecf_cases.specs.Words.{contract, signature, object, num_field, method, num, field, plus, set_field, returns, transaction, tx_call, invocation}
use Rattle.ecf_lang.specs.Meaning.{run, RunResult}
use Rattle.ecf_lang.specs.declared.cell.Cell.{Cell}
use Rattle.ecf_lang.specs.declared.run.Outcome.TheVariants.{Answer, OutOfFuel}
use Rattle.ecf_lang.specs.declared.tree.Ty.TheVariants.{Num}
use Rattle.ecf_lang.specs.declared.tx.Tx.{Tx}
use Rattle.ecf_lang.specs.declared.typed.Typed.{Typed}
use Rattle.ecf_lang.specs.declared.typed.TypedStmt.{TypedStmt}
use Rattle.ecf_verdicts.specs.Receipts.{receipt_on, next_store, serial}
use Rattle.ecf_verdicts.specs.Verdicts.{verdict, Approved}
use Rattle.ecf_verdicts.specs.Words.{cell, read_step, write_step, order}
use Rattle.ecf_lang.specs.declared.receipt.Receipt.TheVariants as receipt

-- object Counter {
--   num n;
--   method bump(): num {
--     n = n + 1;
--     return n;
--   }
-- }

-- bump of Counter
abbrev pub counter_bump : List TypedStmt
counter_bump = set_field 0 (plus (field 0) (num 1)) ∷ returns (field 0) ∷ []

-- the contract
abbrev pub counter : Typed
counter = contract
    (signature [] Num ∷ [])
    (object (num_field ∷ []) (method 0 0 counter_bump ∷ []) ∷ [])

-- n of Counter
abbrev pub n : Cell
n = cell 0 0 0

-- Counter bump 100
abbrev pub bump : Tx
bump = transaction 100 (tx_call 0 0 [] ∷ [])

-- one bump
abbrev pub bump_result : RunResult
bump_result = record {
  outcome = Answer 1;
  fuel = 14;
  store = (n, 1) ∷ [];
  steps = read_step 0 n 0 ∷ write_step 0 n 1 ∷ read_step 0 n 1 ∷ [];
  invocations = invocation 0 0 [] (Some 1) [] 14 ∷ [];
  reads = (n, 0) ∷ [];
  writes = (n, 1) ∷ [];
}

abbrev pub CountsOnce : Type 0
CountsOnce = run counter [] bump ≡ bump_result

-- Counter bump 14
abbrev pub bump_with_14 : Tx
bump_with_14 = transaction 14 (tx_call 0 0 [] ∷ [])

abbrev pub UsesAllFuel : Type 0
UsesAllFuel = run counter [] bump_with_14 ≡ bump_result

-- Counter bump 13
abbrev pub bump_with_13 : Tx
bump_with_13 = transaction 13 (tx_call 0 0 [] ∷ [])

-- one less: the last read is not paid, and so not made
abbrev pub bump_with_13_result : RunResult
bump_with_13_result = record {
  outcome = OutOfFuel;
  fuel = 13;
  store = [];
  steps = read_step 0 n 0 ∷ write_step 0 n 1 ∷ [];
  invocations = invocation 0 0 [] None [] 11 ∷ [];
  reads = (n, 0) ∷ [];
  writes = [];
}

abbrev pub WantsFuelForRead : Type 0
WantsFuelForRead = run counter [] bump_with_13 ≡ bump_with_13_result

-- Counter bump 9
abbrev pub bump_with_9 : Tx
bump_with_9 = transaction 9 (tx_call 0 0 [] ∷ [])

-- the write is not paid, and so not made
abbrev pub bump_with_9_result : RunResult
bump_with_9_result = record {
  outcome = OutOfFuel;
  fuel = 9;
  store = [];
  steps = read_step 0 n 0 ∷ [];
  invocations = invocation 0 0 [] None [] 6 ∷ [];
  reads = (n, 0) ∷ [];
  writes = [];
}

abbrev pub WantsFuelForWrite : Type 0
WantsFuelForWrite = run counter [] bump_with_9 ≡ bump_with_9_result

-- Counter bump 100 ; Counter bump
abbrev pub bump_twice : Tx
bump_twice = transaction 100 (tx_call 0 0 [] ∷ tx_call 0 0 [] ∷ [])

-- two calls of one transaction, each an invocation of its own
abbrev pub bump_twice_result : RunResult
bump_twice_result = record {
  outcome = Answer 2;
  fuel = 28;
  store = (n, 2) ∷ [];
  steps = read_step 0 n 0 ∷ write_step 0 n 1 ∷ read_step 0 n 1
      ∷ read_step 1 n 1 ∷ write_step 1 n 2 ∷ read_step 1 n 2 ∷ [];
  invocations = invocation 0 0 [] (Some 1) [] 14
      ∷ invocation 0 0 [] (Some 2) [] 14 ∷ [];
  reads = (n, 0) ∷ [];
  writes = (n, 2) ∷ [];
}

abbrev pub CountsTwice : Type 0
CountsTwice = run counter [] bump_twice ≡ bump_twice_result

-- Counter bump 20 ; Counter bump
abbrev pub bump_twice_with_20 : Tx
bump_twice_with_20 = transaction 20 (tx_call 0 0 [] ∷ tx_call 0 0 [] ∷ [])

-- the second call wants fuel: the transaction leaves the store as it was
abbrev pub bump_twice_with_20_result : RunResult
bump_twice_with_20_result = record {
  outcome = OutOfFuel;
  fuel = 20;
  store = [];
  steps = read_step 0 n 0 ∷ write_step 0 n 1 ∷ read_step 0 n 1
      ∷ read_step 1 n 1 ∷ [];
  invocations = invocation 0 0 [] (Some 1) [] 14
      ∷ invocation 0 0 [] None [] 6 ∷ [];
  reads = (n, 0) ∷ [];
  writes = [];
}

abbrev pub UndoesBoth : Type 0
UndoesBoth = run counter [] bump_twice_with_20 ≡ bump_twice_with_20_result

-- one call: approved, and there is nothing to order
abbrev pub BumpApproved : Type 0
BumpApproved = verdict bump_result.steps ≡ Approved []

-- its receipt
abbrev pub BumpCommitted : Type 0
BumpCommitted = receipt_on counter [] bump ≡ receipt.Committed 1 14 []

-- the store that it leaves
abbrev pub BumpChanges : Type 0
BumpChanges = next_store counter [] bump ≡ (n, 1) ∷ []

-- two calls: approved in their order
abbrev pub TwoApproved : Type 0
TwoApproved = verdict bump_twice_result.steps ≡ Approved (order 0 (0 ∷ 1 ∷ []) ∷ [])

-- their receipt
abbrev pub TwoCommitted : Type 0
TwoCommitted = receipt_on counter [] bump_twice ≡ receipt.Committed 2 28 (order 0 (0 ∷ 1 ∷ []) ∷ [])

-- the store that they leave
abbrev pub TwoChange : Type 0
TwoChange = next_store counter [] bump_twice ≡ (n, 2) ∷ []

-- want of fuel for the last read takes the whole limit
abbrev pub WantIsReceipt : Type 0
WantIsReceipt = receipt_on counter [] bump_with_13 ≡ receipt.OutOfFuel 13

-- and the store stays
abbrev pub WantChangesNothing : Type 0
WantChangesNothing = next_store counter [] bump_with_13 ≡ []

-- so for want of fuel in the second of two calls
abbrev pub SecondWantIsReceipt : Type 0
SecondWantIsReceipt = receipt_on counter [] bump_twice_with_20 ≡ receipt.OutOfFuel 20

-- the first call is undone too
abbrev pub SecondWantChangesNothing : Type 0
SecondWantChangesNothing = next_store counter [] bump_twice_with_20 ≡ []

-- a bump on what a first one left
abbrev pub bump_again_result : RunResult
bump_again_result = record {
  outcome = Answer 2;
  fuel = 14;
  store = (n, 2) ∷ [];
  steps = read_step 0 n 1 ∷ write_step 0 n 2 ∷ read_step 0 n 2 ∷ [];
  invocations = invocation 0 0 [] (Some 2) [] 14 ∷ [];
  reads = (n, 1) ∷ [];
  writes = (n, 2) ∷ [];
}

abbrev pub CountsAgain : Type 0
CountsAgain = run counter ((n, 1) ∷ []) bump ≡ bump_again_result

-- it is approved too
abbrev pub AgainApproved : Type 0
AgainApproved = verdict bump_again_result.steps ≡ Approved []

-- two transactions one after the other: the second reads what the first one wrote
abbrev pub EachCommitted : Type 0
EachCommitted = (serial counter (bump ∷ bump ∷ [])).receipts ≡ receipt.Committed 1 14 [] ∷ receipt.Committed 2 14 [] ∷ []

-- the store that they leave
abbrev pub EachChanges : Type 0
EachChanges = (serial counter (bump ∷ bump ∷ [])).store ≡ (n, 2) ∷ []
