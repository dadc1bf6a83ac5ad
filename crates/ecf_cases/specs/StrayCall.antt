-- A call of an object that is not there.
use Rattle.std.specs.Prelude.{◌≡◌, [], ◌∷◌, List, None}
use Rattle.ecf_cases.specs.Words.{contract, signature, object, addr_field, method, num, field, returns, call_only, transaction, tx_call, invocation}
use Rattle.ecf_lang.specs.Meaning.{run, RunResult}
use Rattle.ecf_lang.specs.Store.{Store}
use Rattle.ecf_lang.specs.declared.cell.Cell.{Cell}
use Rattle.ecf_lang.specs.declared.run.Cause.TheVariants.{NoMethod}
use Rattle.ecf_lang.specs.declared.run.Outcome.TheVariants.{Reverted}
use Rattle.ecf_lang.specs.declared.tree.Ty.TheVariants.{Num}
use Rattle.ecf_lang.specs.declared.tx.Tx.{Tx}
use Rattle.ecf_lang.specs.declared.typed.Typed.{Typed}
use Rattle.ecf_lang.specs.declared.typed.TypedStmt.{TypedStmt}
use Rattle.ecf_verdicts.specs.Words.{cell, read_step}

-- object S {
--   addr who;
--   method go(): num { call who.go(); return 0; }
-- }

-- go of S
abbrev pub stray_call_go : List TypedStmt
stray_call_go = call_only (field 0) 0 [] ∷ returns (num 0) ∷ []

-- the contract
abbrev pub stray_call : Typed
stray_call = contract
    (signature [] Num ∷ [])
    (object (addr_field ∷ []) (method 0 0 stray_call_go ∷ []) ∷ [])

-- who of S
abbrev pub who : Cell
who = cell 0 0 0

-- a store whose address names no object
abbrev pub nobody : Store
nobody = (who, 9) ∷ []

-- S go 100
abbrev pub go : Tx
go = transaction 100 (tx_call 0 0 [] ∷ [])

-- an object that is not there has no method
abbrev pub go_result : RunResult
go_result = record {
  outcome = Reverted NoMethod;
  fuel = 15;
  store = (who, 9) ∷ [];
  steps = read_step 0 who 9 ∷ [];
  invocations = invocation 0 0 [] None [] 15 ∷ [];
  reads = (who, 9) ∷ [];
  writes = [];
}

abbrev pub Strays : Type 0
Strays = run stray_call nobody go ≡ go_result
