-- What writes add to a sink, and what a sink in memory takes.
use Rattle.std.specs.Prelude.{ℕ, ◌≡◌, List, ◌++◌, length, min, Option, None, Some, Result, Ok, Err}
use Rattle.ecf_edge.specs.Count.{counted_up}
use Rattle.ecf_edge.specs.declared.sink.WriteFault.{WriteFault}
use Rattle.ecf_edge.specs.declared.sink.WriteFault.TheVariants.{Failed, NoMemory}
use Rattle.ecf_edge.specs.Plan.{Plan}

-- what is held and then this text, where it is told
abbrev pub appended : Option (List ℕ) → List ℕ → Option (List ℕ)
appended None text = None
appended (Some held) text = Some (held ++ text)

-- what is held grew by exactly this text, told both before and after or at neither
abbrev pub Grew : Option (List ℕ) → List ℕ → Option (List ℕ) → Type 0
Grew before text after = after ≡ appended before text

-- what is held grew by some first part of this text
pub record GrewByPrefix (before : Option (List ℕ)) (text : List ℕ) (after : Option (List ℕ)) : Type 0 where
  pub written : List ℕ
  pub rest : List ℕ
  pub whole : text ≡ written ++ rest
  pub grew : Grew before written after

-- how many writes have failed, after one more with this answer: a want of memory isn't counted
abbrev pub faults_after_write : {T : Type 0} → ℕ → Result T WriteFault → ℕ
faults_after_write faults (Ok count) = faults
faults_after_write faults (Err Failed) = counted_up faults
faults_after_write faults (Err NoMemory) = faults

-- a sink in memory: the bytes held, and the most that one write takes
pub record StepSink : Type 0 where
  pub held : List ℕ
  pub step : ℕ

-- how many bytes a write takes of a piece
abbrev pub taken : StepSink → List ℕ → ℕ
taken sink piece = min sink.step (length piece)

-- the sink with these bytes at its end
abbrev pub with_more : StepSink → List ℕ → StepSink
with_more sink bytes = record { held = sink.held ++ bytes; step = sink.step }

-- a sink in memory some of whose writes fail
pub record FaultySink : Type 0 where
  pub sink : StepSink
  pub plan : Plan
