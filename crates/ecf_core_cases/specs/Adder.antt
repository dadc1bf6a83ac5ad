-- An object whose number is added to and taken from, and what its transactions come to.
use Rattle.std.specs.Prelude.{ℕ, List, [], ◌∷◌, Some}
use Rattle.ecf_lang.specs.declared.cell.Cell.{Cell}
use Rattle.ecf_lang.specs.declared.receipt.Receipt.{Receipt}
use Rattle.ecf_lang.specs.declared.receipt.Receipt.TheVariants.{Committed}
use Rattle.ecf_lang.specs.declared.run.Outcome.TheVariants.{Answer}
use Rattle.ecf_lang.specs.declared.tree.Ty.TheVariants.{Num}
use Rattle.ecf_lang.specs.declared.tx.Tx.{Tx}
use Rattle.ecf_lang.specs.declared.typed.Typed.{Typed}
use Rattle.ecf_lang.specs.declared.typed.TypedStmt.{TypedStmt}
use Rattle.ecf_lang.specs.Meaning.{RunResult}
use Rattle.ecf_lang.specs.Store.{Store}
use Rattle.ecf_cases.specs.Words.{contract, signature, object, with_first, num_field, method, field, local, plus, minus, set_field, returns, transaction, tx_call, invocation}
use Rattle.ecf_verdicts.specs.Words.{cell, read_step, write_step}

-- object C {
--   num x = 5;
--   method add(n: num): num {
--     x = x + n;
--     return x;
--   }
--   method sub(n: num): num {
--     x = x - n;
--     return x;
--   }
-- }

-- add of C
abbrev pub c_add : List TypedStmt
c_add = set_field 0 (plus (field 0) (local 0)) ∷ returns (field 0) ∷ []

-- sub of C
abbrev pub c_sub : List TypedStmt
c_sub = set_field 0 (minus (field 0) (local 0)) ∷ returns (field 0) ∷ []

-- the contract
abbrev pub adder : Typed
adder = contract
    (signature (Num ∷ []) Num ∷ signature (Num ∷ []) Num ∷ [])
    (object (with_first ((0, 5) ∷ []) num_field ∷ []) (method 0 1 c_add ∷ method 1 1 c_sub ∷ []) ∷ [])

-- x of C
abbrev pub x : Cell
x = cell 0 0 0

-- a submitter's transaction C add 100 N
abbrev pub add : ℕ → ℕ → Tx
add submitter n = record (transaction 100 (tx_call 0 0 (n ∷ []) ∷ [])) { submitter = submitter }

-- a submitter's transaction C sub 100 N
abbrev pub sub : ℕ → ℕ → Tx
sub submitter n = record (transaction 100 (tx_call 0 1 (n ∷ []) ∷ [])) { submitter = submitter }

-- the store with x at a number
abbrev pub holds : ℕ → Store
holds n = (x, n) ∷ []

-- the run of a method, by its name: x was one number and is another, changed by an argument
abbrev pub result : ℕ → ℕ → ℕ → ℕ → RunResult
result name was n now = record {
  outcome = Answer now;
  fuel = 14;
  store = holds now;
  steps = read_step 0 x was ∷ write_step 0 x now ∷ read_step 0 x now ∷ [];
  invocations = invocation 0 name (n ∷ []) (Some now) [] 14 ∷ [];
  reads = (x, was) ∷ [];
  writes = (x, now) ∷ [];
}

-- a run of add
abbrev pub add_result : ℕ → ℕ → ℕ → RunResult
add_result was n now = result 0 was n now

-- a run of sub
abbrev pub sub_result : ℕ → ℕ → ℕ → RunResult
sub_result was n now = result 1 was n now

-- the receipt of such a run, by its answer
abbrev pub committed : ℕ → Receipt
committed n = Committed n 14 []
