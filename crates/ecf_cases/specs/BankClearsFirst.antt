-- A bank that clears the debt before it pays: its receiver calls back, and finds nothing owed.
use Rattle.std.specs.Prelude.{◌≡◌, ℕ, [], ◌∷◌, List, Some}
use Rattle.ecf_cases.specs.Words.{contract, signature, object, num_field, map_field, with_first, method, num, here, local, field, object_name, at, plus, minus, compare, let_num, set_field, set_at, when, returns, call_only, transaction, tx_call, invocation}
use Rattle.ecf_lang.specs.Genesis.{genesis}
use Rattle.ecf_lang.specs.Meaning.{run, RunResult}
use Rattle.ecf_lang.specs.declared.cell.Cell.{Cell}
use Rattle.ecf_lang.specs.declared.run.Outcome.TheVariants.{Answer}
use Rattle.ecf_lang.specs.declared.tree.Op.TheVariants.{Lt}
use Rattle.ecf_lang.specs.declared.tree.Ty.TheVariants.{Num, Addr}
use Rattle.ecf_lang.specs.declared.tx.Tx.{Tx}
use Rattle.ecf_lang.specs.declared.typed.Typed.{Typed}
use Rattle.ecf_lang.specs.declared.typed.TypedStmt.{TypedStmt}
use Rattle.ecf_verdicts.specs.Receipts.{receipt_on, next_store}
use Rattle.ecf_verdicts.specs.Verdicts.{verdict, Approved}
use Rattle.ecf_verdicts.specs.Words.{cell, read_step, write_step, order}
use Rattle.ecf_lang.specs.declared.receipt.Receipt.TheVariants as receipt

-- object Bank {
--   map owed: addr -> num = { Thief: 5 };
--   num cash = 20;
--   method withdraw(who: addr): num {
--     let due: num = owed[who];
--     owed[who] = 0;
--     cash = cash - due;
--     call who.receive(due);
--     return due;
--   }
-- }
-- object Thief {
--   num got;
--   num tries;
--   method receive(n: num): num {
--     got = got + n;
--     if tries < 1 {
--       tries = tries + 1;
--       call Bank.withdraw(here);
--     }
--     return 0;
--   }
-- }

-- withdraw of Bank
abbrev pub bank_clears_first_withdraw : List TypedStmt
bank_clears_first_withdraw =
    let_num 1 (at 0 (local 0))
    ∷ set_at 0 (local 0) (num 0)
    ∷ set_field 1 (minus (field 1) (local 1))
    ∷ call_only (local 0) 1 (local 1 ∷ [])
    ∷ returns (local 1)
    ∷ []

-- the arm in receive of Thief
abbrev pub bank_clears_first_receive_arm : List TypedStmt
bank_clears_first_receive_arm =
    set_field 1 (plus (field 1) (num 1))
    ∷ call_only (object_name 0) 0 (here ∷ [])
    ∷ []

-- receive of Thief
abbrev pub bank_clears_first_receive : List TypedStmt
bank_clears_first_receive =
    set_field 0 (plus (field 0) (local 0))
    ∷ when (compare (field 1) Lt (num 1)) bank_clears_first_receive_arm
    ∷ returns (num 0)
    ∷ []

-- the contract
abbrev pub bank_clears_first : Typed
bank_clears_first = contract
    (signature (Addr ∷ []) Num ∷ signature (Num ∷ []) Num ∷ [])
    (object (with_first ((1, 5) ∷ []) (map_field Addr Num) ∷ with_first ((0, 20) ∷ []) num_field ∷ []) (
    method 0 2 bank_clears_first_withdraw ∷ [])
    ∷ object (num_field ∷ num_field ∷ []) (method 1 1 bank_clears_first_receive ∷ []) ∷ [])

-- owed of Bank, by its key
abbrev pub owed : ℕ → Cell
owed key = cell 0 0 key

-- cash of Bank
abbrev pub cash : Cell
cash = cell 0 1 0

-- got of Thief
abbrev pub got : Cell
got = cell 1 0 0

-- tries of Thief
abbrev pub tries : Cell
tries = cell 1 1 0

-- Bank withdraw 1000 Thief
abbrev pub withdraw : Tx
withdraw = transaction 1000 (tx_call 0 0 (1 ∷ []) ∷ [])

-- the thief is paid once
abbrev pub withdraw_result : RunResult
withdraw_result = record {
  outcome = Answer 5;
  fuel = 136;
  store = (cash, 15) ∷ (got, 5) ∷ (tries, 1) ∷ [];
  steps = read_step 0 (owed 1) 5 ∷ write_step 0 (owed 1) 0 ∷ read_step 0 cash 20 ∷ write_step 0 cash 15
      ∷ read_step 1 got 0 ∷ write_step 1 got 5 ∷ read_step 1 tries 0 ∷ read_step 1 tries 0 ∷ write_step 1 tries 1
      ∷ read_step 2 (owed 1) 0 ∷ write_step 2 (owed 1) 0 ∷ read_step 2 cash 15 ∷ write_step 2 cash 15
      ∷ read_step 3 got 5 ∷ write_step 3 got 5 ∷ read_step 3 tries 1 ∷ [];
  invocations = invocation 0 0 (1 ∷ []) (Some 5) (0 ∷ []) 38
      ∷ invocation 1 1 (5 ∷ []) (Some 0) (0 ∷ []) 42
      ∷ invocation 0 0 (1 ∷ []) (Some 0) (0 ∷ []) 38
      ∷ invocation 1 1 (0 ∷ []) (Some 0) [] 18 ∷ [];
  reads = (owed 1, 5) ∷ (cash, 20) ∷ (got, 0) ∷ (tries, 0) ∷ [];
  writes = (owed 1, 0) ∷ (cash, 15) ∷ (got, 5) ∷ (tries, 1) ∷ [];
}

abbrev pub PaysOnce : Type 0
PaysOnce = run bank_clears_first (genesis bank_clears_first) withdraw ≡ withdraw_result

-- approved, with the order of the calls of each object
abbrev pub StepsApproved : Type 0
StepsApproved = verdict withdraw_result.steps ≡ Approved (order 0 (0 ∷ 2 ∷ []) ∷ order 1 (1 ∷ 3 ∷ []) ∷ [])

-- the receipt
abbrev pub WithdrawalCommitted : Type 0
WithdrawalCommitted =
    receipt_on bank_clears_first (genesis bank_clears_first) withdraw
    ≡ receipt.Committed 5 136 (order 0 (0 ∷ 2 ∷ []) ∷ order 1 (1 ∷ 3 ∷ []) ∷ [])

-- the store that it leaves
abbrev pub StoreChanges : Type 0
StoreChanges = next_store bank_clears_first (genesis bank_clears_first) withdraw ≡ (cash, 15) ∷ (got, 5) ∷ (tries, 1) ∷ []
