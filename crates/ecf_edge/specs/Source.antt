-- What reads take from a source, and what a source in memory gives.
use Rattle.std.specs.Prelude.{ℕ, ◌≡◌, List, [], ◌++◌, length, take, drop, min, Option, None, Some, if◌then◌else◌, IfSome, Result, Ok, Err, Vec}
use Rattle.std.specs.declared.alloc.AllocError.{AllocError}
use Rattle.std.specs.declared.alloc.Global.{Global}
use Rattle.ecf_edge.specs.Count.{counted_up}
use Rattle.ecf_edge.specs.Plan.{Plan, next_fails, after_call}
use Rattle.ecf_edge.specs.declared.source.Failed.{Failed}
use Rattle.ecf_edge.specs.declared.source.Ending.{Ending}
use Rattle.ecf_edge.specs.declared.source.Ending.TheVariants as ending
use Rattle.ecf_edge.specs.declared.source.Reading.{Reading}
use Rattle.ecf_edge.specs.declared.source.Incomplete.{Incomplete}
use Rattle.ecf_edge.specs.declared.source.Incomplete.TheVariants as incomplete

-- this piece and then what is left, where it is told
abbrev pub prepended : List ℕ → Option (List ℕ) → Option (List ℕ)
prepended piece None = None
prepended piece (Some left) = Some (piece ++ left)

-- what was left is this piece and then what is left now, told both before and after or at neither
abbrev pub Gave : Option (List ℕ) → List ℕ → Option (List ℕ) → Type 0
Gave before piece after = before ≡ prepended piece after

-- what was left is some piece and then what is left now
abbrev pub GaveSome : Option (List ℕ) → Option (List ℕ) → Type 0
GaveSome before after = (piece : List ℕ) × Gave before piece after

-- where it is told, nothing is left
abbrev pub IsAtEnd : Option (List ℕ) → Type 0
IsAtEnd left = IfSome left (λ bytes. bytes ≡ [])

-- how many reads have failed, after one more with this answer
abbrev pub faults_after_read : {T : Type 0} → ℕ → Result T Failed → ℕ
faults_after_read faults (Ok count) = faults
faults_after_read faults (Err fault) = counted_up faults

-- how many reads have failed, after a reading that stopped so: one more, where it stopped at a failed read
abbrev pub faults_after_ending : ℕ → Ending → ℕ
faults_after_ending faults ending.End = faults
faults_after_ending faults ending.OverLimit = faults
faults_after_ending faults ending.Failed = counted_up faults

-- how many reads have failed, after a reading with this answer
abbrev pub faults_after_reading : ℕ → Result Reading AllocError → ℕ
faults_after_reading faults (Ok reading) = faults_after_ending faults reading.ending
faults_after_reading faults (Err fault) = faults

-- the bytes of a reading that stopped so, where they are all, or why they aren't
abbrev pub whole_of : Ending → Vec ℕ Global → Result (Vec ℕ Global) Incomplete
whole_of ending.End bytes = Ok bytes
whole_of ending.OverLimit bytes = Err incomplete.OverLimit
whole_of ending.Failed bytes = Err incomplete.Failed

-- a source in memory: the bytes left, and the most that one read gives
pub record StepSource : Type 0 where
  pub left : List ℕ
  pub step : ℕ

-- how many bytes a read gives into so much room
abbrev pub given : StepSource → ℕ → ℕ
given source room = min source.step (min room (length source.left))

-- the buffer after a read: the bytes given, and then what it had
abbrev pub filled : StepSource → List ℕ → List ℕ
filled source buffer = let n = given source (length buffer) in take n source.left ++ drop n buffer

-- the source after a read into so much room
abbrev pub after_read : StepSource → ℕ → StepSource
after_read source room = record { left = drop (given source room) source.left; step = source.step }

-- a source in memory some of whose reads fail
pub record FaultySource : Type 0 where
  pub source : StepSource
  pub plan : Plan

-- after a read into so much room: a read that fails gives nothing
abbrev pub after_faulty_read : FaultySource → ℕ → FaultySource
after_faulty_read s room = record {
  source = if next_fails s.plan then s.source else after_read s.source room;
  plan = after_call s.plan;
}
