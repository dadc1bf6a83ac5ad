-- What swaps can do with the steps of a transaction on an object.
use Rattle.std.specs.Prelude.{ℕ, List}
use Rattle.ecf_lang.specs.declared.run.Step.{Step}
use Rattle.ecf_lang.specs.declared.tx.Tx.{Tx}
use Rattle.ecf_lang.specs.declared.typed.Typed.{Typed}
use Rattle.ecf_lang.specs.Meaning.{run}
use Rattle.ecf_lang.specs.Store.{Store}
use Rattle.ecf_verdicts.specs.Free.{Free, IsTogether}
use Rattle.ecf_verdicts.specs.Traces.{trace}

-- the steps that a transaction on a store makes on an object
abbrev pub trace_of : Typed → Store → Tx → ℕ → List Step
trace_of typed store tx object = trace (run typed store tx).steps object

-- some invocation's steps on the object have another's between them
abbrev pub IsNotTogether : Typed → Store → Tx → ℕ → Type 0
IsNotTogether typed store tx object = IsTogether (trace_of typed store tx object) → ⊥

-- swaps can bring the steps of each invocation on the object together
abbrev pub SwapsBringTogether : Typed → Store → Tx → ℕ → Type 0
SwapsBringTogether typed store tx object = Free (trace_of typed store tx object)

-- no swaps can
abbrev pub NoSwapsBringTogether : Typed → Store → Tx → ℕ → Type 0
NoSwapsBringTogether typed store tx object = SwapsBringTogether typed store tx object → ⊥
