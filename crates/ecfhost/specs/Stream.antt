-- A reader or a writer, how many calls on it failed, and what one call tells.
use Rattle.std.specs.Prelude.{ℕ, ◌<◌, ◌⊎◌, List, length, Result, Ok, Err}
use Rattle.std.specs.declared.io.Error.{Error}
use Rattle.ecf_edge.specs.declared.source.Failed.{Failed}
use Rattle.ecf_edge.specs.declared.sink.WriteFault.{WriteFault}
use Rattle.ecf_edge.specs.declared.sink.WriteFault.TheVariants as write

-- the reader or the writer itself, and the count
pub record Stream (T : Type 0) : Type 0 where
  pub inner : T
  pub faults : ℕ

-- before the first call
abbrev pub fresh_stream : {T : Type 0} → T → Stream T
fresh_stream inner = record { inner = inner; faults = 0 }

-- of the answers that one read may give, this is told: its count, or that it failed
abbrev pub IsOneRead : (Result ℕ Error → Type 0) → Result ℕ Failed → Type 0
IsOneRead may_give (Ok count) = may_give (Ok count)
IsOneRead may_give (Err fault) = (error : Error) × may_give (Err error)

-- of the answers that one write of a piece may give, this is told: its count, or that it failed, as one does that takes
-- nothing of a piece that has bytes
abbrev pub IsOneWrite : (Result ℕ Error → Type 0) → List ℕ → Result ℕ WriteFault → Type 0
IsOneWrite may_give piece (Ok count) = may_give (Ok count)
IsOneWrite may_give piece (Err write.Failed) = ((error : Error) × may_give (Err error)) ⊎ (may_give (Ok 0) × (0 < length piece))
IsOneWrite may_give piece (Err write.NoMemory) = ⊥
