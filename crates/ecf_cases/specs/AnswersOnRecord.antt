-- Several calls, whose answers are kept in order.
use Rattle.std.specs.Prelude.{◌≡◌, ℕ, [], ◌∷◌, List, Some}
use Rattle.ecf_cases.specs.Words.{contract, signature, object, num_field, map_field, method, num, local, field, object_name, plus, external_call, internal_call, let_num, set_field, set_at, returns, call_only, transaction, tx_call, invocation}
use Rattle.ecf_lang.specs.Meaning.{run, RunResult}
use Rattle.ecf_lang.specs.declared.cell.Cell.{Cell}
use Rattle.ecf_lang.specs.declared.run.Outcome.TheVariants.{Answer}
use Rattle.ecf_lang.specs.declared.tree.Ty.TheVariants.{Num}
use Rattle.ecf_lang.specs.declared.tx.Tx.{Tx}
use Rattle.ecf_lang.specs.declared.typed.Typed.{Typed}
use Rattle.ecf_lang.specs.declared.typed.TypedStmt.{TypedStmt}
use Rattle.ecf_verdicts.specs.Words.{cell, read_step, write_step}

-- object A {
--   map m: num -> num;
--   method go(): num {
--     let first: num = call B.next(10);
--     let second: num = call B.next(20);
--     m[call B.next(30)] = call B.next(40);
--     call B.next(first + second);
--     return self.more(1);
--   }
--   method more(n: num): num { return n + call B.next(100); }
-- }
-- object B {
--   num last;
--   method next(n: num): num { last = last + n; return last; }
-- }

-- go of A
abbrev pub answers_on_record_go : List TypedStmt
answers_on_record_go =
    let_num 0 (external_call (object_name 1) 2 (num 10 ∷ []))
    ∷ let_num 1 (external_call (object_name 1) 2 (num 20 ∷ []))
    ∷ set_at 0 (external_call (object_name 1) 2 (num 30 ∷ [])) (external_call (object_name 1) 2 (num 40 ∷ []))
    ∷ call_only (object_name 1) 2 (plus (local 0) (local 1) ∷ [])
    ∷ returns (internal_call 1 (num 1 ∷ []))
    ∷ []

-- more of A
abbrev pub answers_on_record_more : List TypedStmt
answers_on_record_more = returns (plus (local 0) (external_call (object_name 1) 2 (num 100 ∷ []))) ∷ []

-- next of B
abbrev pub answers_on_record_next : List TypedStmt
answers_on_record_next = set_field 0 (plus (field 0) (local 0)) ∷ returns (field 0) ∷ []

-- the contract
abbrev pub answers_on_record : Typed
answers_on_record = contract
    (signature [] Num ∷ signature (Num ∷ []) Num ∷ signature (Num ∷ []) Num ∷ [])
    (object (map_field Num Num ∷ []) (method 0 2 answers_on_record_go ∷ method 1 1 answers_on_record_more ∷ [])
    ∷ object (num_field ∷ []) (method 2 1 answers_on_record_next ∷ []) ∷ [])

-- m of A, by its key
abbrev pub m : ℕ → Cell
m key = cell 0 0 key

-- last of B
abbrev pub last : Cell
last = cell 1 0 0

-- A go 1000
abbrev pub go : Tx
go = transaction 1000 (tx_call 0 0 [] ∷ [])

-- all the answers of a caller's calls, in order, that of an internal call's body too
abbrev pub go_result : RunResult
go_result = record {
  outcome = Answer 241;
  fuel = 181;
  store = (m 60, 100) ∷ (last, 240) ∷ [];
  steps = read_step 1 last 0 ∷ write_step 1 last 10 ∷ read_step 1 last 10
      ∷ read_step 2 last 10 ∷ write_step 2 last 30 ∷ read_step 2 last 30
      ∷ read_step 3 last 30 ∷ write_step 3 last 60 ∷ read_step 3 last 60
      ∷ read_step 4 last 60 ∷ write_step 4 last 100 ∷ read_step 4 last 100
      ∷ write_step 0 (m 60) 100
      ∷ read_step 5 last 100 ∷ write_step 5 last 140 ∷ read_step 5 last 140
      ∷ read_step 6 last 140 ∷ write_step 6 last 240 ∷ read_step 6 last 240 ∷ [];
  invocations = invocation 0 0 [] (Some 241) (10 ∷ 30 ∷ 60 ∷ 100 ∷ 140 ∷ 240 ∷ []) 97
      ∷ invocation 1 2 (10 ∷ []) (Some 10) [] 14
      ∷ invocation 1 2 (20 ∷ []) (Some 30) [] 14
      ∷ invocation 1 2 (30 ∷ []) (Some 60) [] 14
      ∷ invocation 1 2 (40 ∷ []) (Some 100) [] 14
      ∷ invocation 1 2 (40 ∷ []) (Some 140) [] 14
      ∷ invocation 1 2 (100 ∷ []) (Some 240) [] 14 ∷ [];
  reads = (last, 0) ∷ [];
  writes = (m 60, 100) ∷ (last, 240) ∷ [];
}

abbrev pub AnswersInOrder : Type 0
AnswersInOrder = run answers_on_record [] go ≡ go_result
