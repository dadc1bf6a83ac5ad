-- What a reading of a source as a schedule came to.
use Rattle.std.specs.Prelude.{◌≡◌, ℕ, Bool, true, false, nat_lt, List, ◌++◌, length, Option, Some, None, IfSome}
use Rattle.ecf_core.specs.declared.event.Event.{Event}
use Rattle.ecf_edge.specs.Source.{Gave}
use Rattle.ecf_events.specs.Stream.{ScheduleSaid, schedule_said}
use Rattle.ecf_lang.specs.declared.receipt.Stop.{Stop}
use Rattle.ecf_lang.specs.declared.receipt.StopCause.{StopCause}
use Rattle.ecf_lang.specs.declared.receipt.StopCause.TheVariants.{Read}
use Rattle.ecf_lines.specs.Stream.{lines_of}
use Rattle.ecf_stream.specs.declared.stream_reader.Reach.{Reach}
use Rattle.ecf_stream.specs.declared.stream_reader.Reach.TheVariants as reach
use Rattle.ecf_stream.specs.StreamState.{reach_by, left_at, faults_at, MayFollow}

-- events and a stop
abbrev pub said_by : List Event → Option Stop → ScheduleSaid
said_by events stop = record { events = events; stop = stop }

-- an LF ended the line of that number
abbrev pub is_ended : List ℕ → ℕ → Bool
is_ended bytes line = nat_lt line (length (lines_of bytes))

-- how far a source was read that gave these bytes, where the reading came to its end or to this stop
abbrev pub reach_of : List ℕ → Option Stop → Reach
reach_of bytes None = reach.AtEnd
reach_of bytes (Some stop) = reach_by stop.cause (is_ended bytes stop.line)

-- The source gave a piece and came so far, to its end or to a failed read exactly where the stop tells it. Whatever may come of it behind
-- the piece, this is what it says.
pub record ReadsSchedule (left left' : Option (List ℕ)) (faults faults' : ℕ) (said : ScheduleSaid) : Type 0 where
  pub piece : List ℕ
  pub gave : Gave left piece left'
  pub end : left_at (reach_of piece said.stop) left'
  pub counted : faults' ≡ faults_at (reach_of piece said.stop) faults
  pub says : (more : List ℕ) (failed : Bool) → MayFollow (reach_of piece said.stop) more failed → schedule_said (piece ++ more) failed ≡ said

-- a read failed there
abbrev pub is_read : StopCause → Bool
is_read Read = true
is_read other = false

-- a reading stopped at a failed read
abbrev pub has_failed : Option Stop → Bool
has_failed None = false
has_failed (Some stop) = is_read stop.cause

-- where no read failed, this is what all of the source says, if it tells what it had; and where one failed, what it gave before says
abbrev pub AreSaidBy : Bool → Option (List ℕ) → Option (List ℕ) → ScheduleSaid → Type 0
AreSaidBy true left left' said = (piece : List ℕ) × Gave left piece left' × (schedule_said piece true ≡ said)
AreSaidBy false left left' said = IfSome left (λ bytes. schedule_said bytes false ≡ said)

-- so it is by the stop
abbrev pub AreSaid : Option (List ℕ) → Option (List ℕ) → ScheduleSaid → Type 0
AreSaid left left' said = AreSaidBy (has_failed said.stop) left left' said
