-- A loop without end.
use Rattle.std.specs.Prelude.{◌≡◌, true, [], ◌∷◌, List, None}
use Rattle.ecf_cases.specs.Words.{contract, signature, object, method, num, flag, while, returns, transaction, tx_call, invocation}
use Rattle.ecf_lang.specs.Meaning.{run, RunResult}
use Rattle.ecf_lang.specs.declared.run.Outcome.TheVariants.{OutOfFuel}
use Rattle.ecf_lang.specs.declared.tree.Ty.TheVariants.{Num}
use Rattle.ecf_lang.specs.declared.tx.Tx.{Tx}
use Rattle.ecf_lang.specs.declared.typed.Typed.{Typed}
use Rattle.ecf_lang.specs.declared.typed.TypedStmt.{TypedStmt}

-- object S {
--   method spin(): num { while true { } return 0; }
-- }

-- spin of S
abbrev pub endless_loop_spin : List TypedStmt
endless_loop_spin = while (flag true) [] ∷ returns (num 0) ∷ []

-- the contract
abbrev pub endless_loop : Typed
endless_loop = contract
    (signature [] Num ∷ [])
    (object [] (method 0 0 endless_loop_spin ∷ []) ∷ [])

-- S spin 12
abbrev pub spin : Tx
spin = transaction 12 (tx_call 0 0 [] ∷ [])

-- a loop without end takes all the fuel
abbrev pub spin_result : RunResult
spin_result = record {
  outcome = OutOfFuel;
  fuel = 12;
  store = [];
  steps = [];
  invocations = invocation 0 0 [] None [] 12 ∷ [];
  reads = [];
  writes = [];
}

abbrev pub Spins : Type 0
Spins = run endless_loop [] spin ≡ spin_result
