-- A method that tries to call itself until no frame may be opened.
use Rattle.std.specs.Prelude.{◌≡◌, ◌++◌, [], ◌∷◌, List, Some, replicate}
use Rattle.ecf_cases.specs.Words.{contract, signature, object, method, here, local, let_try, returns, transaction, tx_call, invocation}
use Rattle.ecf_lang.specs.Meaning.{run, RunResult}
use Rattle.ecf_lang.specs.declared.run.Outcome.TheVariants.{Answer}
use Rattle.ecf_lang.specs.declared.tree.Ty.TheVariants.{Flag}
use Rattle.ecf_lang.specs.declared.tx.Tx.{Tx}
use Rattle.ecf_lang.specs.declared.typed.Typed.{Typed}
use Rattle.ecf_lang.specs.declared.typed.TypedStmt.{TypedStmt}

-- object M {
--   method deep(): flag { let ok: flag = try here.deep(); return ok; }
-- }

-- deep of M
abbrev pub caught_depth_deep : List TypedStmt
caught_depth_deep = let_try 0 here 0 [] ∷ returns (local 0) ∷ []

-- the contract
abbrev pub caught_depth : Typed
caught_depth = contract
    (signature [] Flag ∷ [])
    (object [] (method 0 1 caught_depth_deep ∷ []) ∷ [])

-- M deep 1000
abbrev pub go : Tx
go = transaction 1000 (tx_call 0 0 [] ∷ [])

-- the innermost `try` catches that no frame may be opened
abbrev pub go_result : RunResult
go_result = record {
  outcome = Answer 1;
  fuel = 960;
  store = [];
  steps = [];
  invocations = replicate 63 (invocation 0 0 [] (Some 1) (1 ∷ []) 15) ++ invocation 0 0 [] (Some 0) (0 ∷ []) 15 ∷ [];
  reads = [];
  writes = [];
}

abbrev pub CatchesDepth : Type 0
CatchesDepth = run caught_depth [] go ≡ go_result
