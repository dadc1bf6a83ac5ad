-- A try of a method that the object has not.
use Rattle.std.specs.Prelude.{◌≡◌, [], ◌∷◌, List, Some}
use Rattle.ecf_cases.specs.Words.{contract, signature, object, method, local, object_name, let_try, returns, transaction, tx_call, invocation}
use Rattle.ecf_lang.specs.Meaning.{run, RunResult}
use Rattle.ecf_lang.specs.declared.run.Outcome.TheVariants.{Answer}
use Rattle.ecf_lang.specs.declared.tree.Ty.TheVariants.{Flag}
use Rattle.ecf_lang.specs.declared.tx.Tx.{Tx}
use Rattle.ecf_lang.specs.declared.typed.Typed.{Typed}
use Rattle.ecf_lang.specs.declared.typed.TypedStmt.{TypedStmt}

-- object A {
--   method go(): flag { let ok: flag = try B.go(); return ok; }
-- }
-- object B { }

-- go of A
abbrev pub missing_method_go : List TypedStmt
missing_method_go = let_try 0 (object_name 1) 0 [] ∷ returns (local 0) ∷ []

-- the contract
abbrev pub missing_method : Typed
missing_method = contract
    (signature [] Flag ∷ [])
    (object [] (method 0 1 missing_method_go ∷ [])
    ∷ object [] [] ∷ [])

-- A go 100
abbrev pub go : Tx
go = transaction 100 (tx_call 0 0 [] ∷ [])

-- a missing method is caught, and opens no invocation
abbrev pub go_result : RunResult
go_result = record {
  outcome = Answer 0;
  fuel = 15;
  store = [];
  steps = [];
  invocations = invocation 0 0 [] (Some 0) (0 ∷ []) 15 ∷ [];
  reads = [];
  writes = [];
}

abbrev pub CatchesMissing : Type 0
CatchesMissing = run missing_method [] go ≡ go_result
