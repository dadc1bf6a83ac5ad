-- A method called internally belongs to its caller; the same method called from outside is an invocation of its own.
use Rattle.std.specs.Prelude.{◌≡◌, [], ◌∷◌, List, Some}
use Rattle.ecf_cases.specs.Outcomes.{NoSwapsBringTogether}
use Rattle.ecf_cases.specs.Words.{contract, signature, object, num_field, method, num, here, field, plus, set_field, returns, call_only, self_only, transaction, tx_call, invocation}
use Rattle.ecf_lang.specs.Meaning.{run, RunResult}
use Rattle.ecf_lang.specs.declared.cell.Cell.{Cell}
use Rattle.ecf_lang.specs.declared.run.Outcome.TheVariants.{Answer}
use Rattle.ecf_lang.specs.declared.tree.Ty.TheVariants.{Num}
use Rattle.ecf_lang.specs.declared.tx.Tx.{Tx}
use Rattle.ecf_lang.specs.declared.typed.Typed.{Typed}
use Rattle.ecf_lang.specs.declared.typed.TypedStmt.{TypedStmt}
use Rattle.ecf_verdicts.specs.Receipts.{receipt_on, next_store}
use Rattle.ecf_verdicts.specs.Verdicts.{verdict, Approved, Vetoed}
use Rattle.ecf_verdicts.specs.Words.{cell, read_step, write_step}
use Rattle.ecf_lang.specs.declared.receipt.Receipt.TheVariants as receipt

-- object A {
--   num x;
--   method inner(): num { x = x + 1; return x; }
--   method own(): num { x = 1; self.inner(); x = x + 1; return x; }
--   method out(): num { x = 1; call here.inner(); x = x + 1; return x; }
-- }

-- inner of A
abbrev pub own_calls_inner : List TypedStmt
own_calls_inner = set_field 0 (plus (field 0) (num 1)) ∷ returns (field 0) ∷ []

-- own of A
abbrev pub own_calls_own : List TypedStmt
own_calls_own =
    set_field 0 (num 1)
    ∷ self_only 0 []
    ∷ set_field 0 (plus (field 0) (num 1))
    ∷ returns (field 0)
    ∷ []

-- out of A
abbrev pub own_calls_out : List TypedStmt
own_calls_out =
    set_field 0 (num 1)
    ∷ call_only here 0 []
    ∷ set_field 0 (plus (field 0) (num 1))
    ∷ returns (field 0)
    ∷ []

-- the contract
abbrev pub own_calls : Typed
own_calls = contract
    (signature [] Num ∷ signature [] Num ∷ signature [] Num ∷ [])
    (object (num_field ∷ []) (method 0 0 own_calls_inner ∷ method 1 0 own_calls_own ∷ method 2 0 own_calls_out ∷ []) ∷ [])

-- x of A
abbrev pub x : Cell
x = cell 0 0 0

-- A own 100
abbrev pub own : Tx
own = transaction 100 (tx_call 0 1 [] ∷ [])

-- an internal call belongs to its caller: one invocation, and no answer on record
abbrev pub own_result : RunResult
own_result = record {
  outcome = Answer 3;
  fuel = 39;
  store = (x, 3) ∷ [];
  steps = write_step 0 x 1 ∷ read_step 0 x 1 ∷ write_step 0 x 2 ∷ read_step 0 x 2 ∷ read_step 0 x 2 ∷ write_step 0 x 3 ∷ read_step 0 x 3 ∷ [];
  invocations = invocation 0 1 [] (Some 3) [] 39 ∷ [];
  reads = [];
  writes = (x, 3) ∷ [];
}

abbrev pub StaysInside : Type 0
StaysInside = run own_calls [] own ≡ own_result

-- A out 100
abbrev pub out : Tx
out = transaction 100 (tx_call 0 2 [] ∷ [])

-- an external call of the own object is a new invocation
abbrev pub out_result : RunResult
out_result = record {
  outcome = Answer 3;
  fuel = 47;
  store = (x, 3) ∷ [];
  steps = write_step 0 x 1
      ∷ read_step 1 x 1 ∷ write_step 1 x 2 ∷ read_step 1 x 2
      ∷ read_step 0 x 2 ∷ write_step 0 x 3 ∷ read_step 0 x 3 ∷ [];
  invocations = invocation 0 2 [] (Some 3) (2 ∷ []) 33
      ∷ invocation 0 0 [] (Some 2) [] 14 ∷ [];
  reads = [];
  writes = (x, 3) ∷ [];
}

abbrev pub CallsItself : Type 0
CallsItself = run own_calls [] out ≡ out_result

-- the internal call: approved, and there is nothing to order
abbrev pub OwnApproved : Type 0
OwnApproved = verdict own_result.steps ≡ Approved []

-- its receipt
abbrev pub OwnCommitted : Type 0
OwnCommitted = receipt_on own_calls [] own ≡ receipt.Committed 3 39 []

-- the store that it leaves
abbrev pub OwnChanges : Type 0
OwnChanges = next_store own_calls [] own ≡ (x, 3) ∷ []

-- the external call: vetoed
abbrev pub OutStepsVetoed : Type 0
OutStepsVetoed = verdict out_result.steps ≡ Vetoed 0 5 (0 ∷ 1 ∷ [])

-- its receipt
abbrev pub OutVetoed : Type 0
OutVetoed = receipt_on own_calls [] out ≡ receipt.Vetoed 0 5 (0 ∷ 1 ∷ []) 47

-- the store stays
abbrev pub OutChangesNothing : Type 0
OutChangesNothing = next_store own_calls [] out ≡ []

-- no swaps bring the steps of each invocation together
abbrev pub NoSwapsHelp : Type 0
NoSwapsHelp = NoSwapsBringTogether own_calls [] out 0
