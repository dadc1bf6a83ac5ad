-- A method that calls itself internally until no frame may be opened.
use Rattle.std.specs.Prelude.{◌≡◌, [], ◌∷◌, List, None, replicate}
use Rattle.ecf_cases.specs.Words.{contract, signature, object, num_field, with_first, method, num, internal_call, set_field, returns, transaction, tx_call, invocation}
use Rattle.ecf_lang.specs.Genesis.{genesis}
use Rattle.ecf_lang.specs.Meaning.{run, RunResult}
use Rattle.ecf_lang.specs.declared.cell.Cell.{Cell}
use Rattle.ecf_lang.specs.declared.run.Cause.TheVariants.{Depth}
use Rattle.ecf_lang.specs.declared.run.Outcome.TheVariants.{Reverted, OutOfFuel}
use Rattle.ecf_lang.specs.declared.tree.Ty.TheVariants.{Num}
use Rattle.ecf_lang.specs.declared.tx.Tx.{Tx}
use Rattle.ecf_lang.specs.declared.typed.Typed.{Typed}
use Rattle.ecf_lang.specs.declared.typed.TypedStmt.{TypedStmt}
use Rattle.ecf_verdicts.specs.Words.{cell, write_step}

-- object M {
--   num x = 7;
--   method deep(): num { x = 0; return self.deep(); }
-- }

-- deep of M
abbrev pub own_depth_deep : List TypedStmt
own_depth_deep = set_field 0 (num 0) ∷ returns (internal_call 0 []) ∷ []

-- the contract
abbrev pub own_depth : Typed
own_depth = contract
    (signature [] Num ∷ [])
    (object (with_first ((0, 7) ∷ []) num_field ∷ []) (method 0 0 own_depth_deep ∷ []) ∷ [])

-- x of M
abbrev pub x : Cell
x = cell 0 0 0

-- M deep 704
abbrev pub go : Tx
go = transaction 704 (tx_call 0 0 [] ∷ [])

-- the 65th frame is charged and then refused
abbrev pub go_result : RunResult
go_result = record {
  outcome = Reverted Depth;
  fuel = 704;
  store = (x, 7) ∷ [];
  steps = replicate 64 (write_step 0 x 0);
  invocations = invocation 0 0 [] None [] 704 ∷ [];
  reads = [];
  writes = [];
}

abbrev pub TooDeep : Type 0
TooDeep = run own_depth (genesis own_depth) go ≡ go_result

-- M deep 703
abbrev pub go_with_less : Tx
go_with_less = transaction 703 (tx_call 0 0 [] ∷ [])

-- one less: its charge comes before the test
abbrev pub go_with_less_result : RunResult
go_with_less_result = record {
  outcome = OutOfFuel;
  fuel = 703;
  store = (x, 7) ∷ [];
  steps = replicate 64 (write_step 0 x 0);
  invocations = invocation 0 0 [] None [] 700 ∷ [];
  reads = [];
  writes = [];
}

abbrev pub NotPaid : Type 0
NotPaid = run own_depth (genesis own_depth) go_with_less ≡ go_with_less_result
