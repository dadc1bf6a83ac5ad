-- A method that calls itself from outside until no frame may be opened.
use Rattle.std.specs.Prelude.{◌≡◌, ◌++◌, [], ◌∷◌, List, None, replicate}
use Rattle.ecf_cases.specs.Words.{contract, signature, object, method, here, external_call, returns, transaction, tx_call, invocation}
use Rattle.ecf_lang.specs.Meaning.{run, RunResult}
use Rattle.ecf_lang.specs.declared.run.Cause.TheVariants.{Depth}
use Rattle.ecf_lang.specs.declared.run.Outcome.TheVariants.{Reverted, OutOfFuel}
use Rattle.ecf_lang.specs.declared.tree.Ty.TheVariants.{Num}
use Rattle.ecf_lang.specs.declared.tx.Tx.{Tx}
use Rattle.ecf_lang.specs.declared.typed.Typed.{Typed}
use Rattle.ecf_lang.specs.declared.typed.TypedStmt.{TypedStmt}

-- object M {
--   method deep(): num { return call here.deep(); }
-- }

-- deep of M
abbrev pub outer_depth_deep : List TypedStmt
outer_depth_deep = returns (external_call here 0 []) ∷ []

-- the contract
abbrev pub outer_depth : Typed
outer_depth = contract
    (signature [] Num ∷ [])
    (object [] (method 0 0 outer_depth_deep ∷ []) ∷ [])

-- M deep 832
abbrev pub go : Tx
go = transaction 832 (tx_call 0 0 [] ∷ [])

-- the 65th frame by external calls is charged and then refused
abbrev pub go_result : RunResult
go_result = record {
  outcome = Reverted Depth;
  fuel = 832;
  store = [];
  steps = [];
  invocations = replicate 64 (invocation 0 0 [] None [] 13);
  reads = [];
  writes = [];
}

abbrev pub TooDeepOutside : Type 0
TooDeepOutside = run outer_depth [] go ≡ go_result

-- M deep 831
abbrev pub go_with_less : Tx
go_with_less = transaction 831 (tx_call 0 0 [] ∷ [])

-- one less: the charge comes before the test
abbrev pub go_with_less_result : RunResult
go_with_less_result = record {
  outcome = OutOfFuel;
  fuel = 831;
  store = [];
  steps = [];
  invocations = replicate 63 (invocation 0 0 [] None [] 13) ++ invocation 0 0 [] None [] 2 ∷ [];
  reads = [];
  writes = [];
}

abbrev pub NotPaidOutside : Type 0
NotPaidOutside = run outer_depth [] go_with_less ≡ go_with_less_result
