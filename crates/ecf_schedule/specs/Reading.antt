-- What a reader of a schedule holds, what it is to say yet, and what its calls take.
use Rattle.std.specs.Prelude.{◌≡◌, ℕ, ◌+◌, ◌≤◌, Bool, true, false, List, [], ◌∷◌, ◌++◌, length, drop, Option, Some, None, Ok, Err}
use Rattle.ecf_core.specs.declared.event.Event.{Event}
use Rattle.ecf_events.specs.Stream.{Place, ScheduleSaid, said_from}
use Rattle.ecf_lang.specs.declared.limits.TheConstants.{MAX_LINE_BYTES, MAX_SCHEDULE_BYTES}
use Rattle.ecf_lang.specs.declared.receipt.Stop.{Stop}
use Rattle.ecf_lang.specs.declared.receipt.StopCause.{StopCause}
use Rattle.ecf_lang.specs.declared.receipt.StopCause.TheVariants.{Read}
use Rattle.ecf_lines.specs.Line.{Reading}
use Rattle.ecf_lines.specs.Stream.{bytes_of_line, lines_of}
use Rattle.ecf_stream.specs.LineState.{LineState, first_line, opened, IsWithin}
use Rattle.ecf_schedule.specs.declared.reader.Step.{Step}
use Rattle.ecf_schedule.specs.declared.reader.Step.TheVariants as step

-- the line at hand, and the events so far
pub record EventState : Type 0 where
  pub lines : LineState
  pub events : List Event

-- before the first byte
abbrev pub first_state : EventState
first_state = record { lines = first_line MAX_LINE_BYTES MAX_SCHEDULE_BYTES; events = [] }

-- where the line begins to which the next byte comes
abbrev pub place_of : EventState → Place
place_of s = record { lines = (opened s.lines).lines; bytes = (opened s.lines).bytes; events = length s.events }

-- these events, and then the rest
abbrev pub with_events : List Event → ScheduleSaid → ScheduleSaid
with_events events rest = record { events = events ++ rest.events; stop = rest.stop }

-- what a reader says, with what it is to say yet of the bytes to come and of whether a read fails after them
abbrev pub to_say : EventState → List ℕ → Bool → ScheduleSaid
to_say s bytes failed = with_events s.events (said_from (place_of s) (lines_of ((opened s.lines).line ++ bytes)) failed)

-- what a reader says that has stopped
abbrev pub said_up_to : EventState → Stop → ScheduleSaid
said_up_to s stop = record { events = s.events; stop = Some stop }

-- a stop at the line at hand
abbrev pub stop_at : EventState → StopCause → Stop
stop_at s cause = record { line = s.lines.lines + 1; cause = cause }

-- how many bytes the lines have that were taken, the one at hand included
abbrev pub bytes_taken : EventState → ℕ
bytes_taken s = s.lines.bytes + bytes_of_line s.lines.is_whole s.lines.line

-- the reader has passed no limit of a schedule
pub record IsReading (s : EventState) : Type 0 where
  pub within : IsWithin s.lines
  pub most_line : s.lines.most_line ≡ MAX_LINE_BYTES
  pub most_bytes : s.lines.most_bytes ≡ MAX_SCHEDULE_BYTES
  pub over : s.lines.over ≡ None

-- so many bytes of a piece were taken, and nothing else changed of what is said
pub record GoesOn (old new : EventState) (piece : List ℕ) (count : ℕ) : Type 0 where
  pub reading : IsReading new
  pub taken : bytes_taken new ≡ bytes_taken old + count
  pub within : count ≤ length piece
  pub says : (more : List ℕ) (failed : Bool) → to_say old (piece ++ more) failed ≡ to_say new (drop count piece ++ more) failed

-- whatever comes behind a piece, the stop is what was to be said
abbrev pub Stops : Stop → EventState → EventState → List ℕ → Type 0
Stops stop old new piece = (more : List ℕ) (failed : Bool) → to_say old (piece ++ more) failed ≡ said_up_to new stop

-- what a step takes of a piece
abbrev pub Steps : Step → EventState → EventState → List ℕ → Type 0
Steps step.More old new piece = GoesOn old new piece (length piece)
Steps (step.Line taken) old new piece = GoesOn old new piece taken × (1 ≤ taken)
Steps (step.Stop stop) old new piece = Stops stop old new piece

-- a piece was taken whole, or up to a stop
abbrev pub Takes : Option Stop → EventState → EventState → List ℕ → Type 0
Takes None old new piece = GoesOn old new piece (length piece)
Takes (Some stop) old new piece = Stops stop old new piece

-- the reader has said all where no more bytes come
abbrev pub HasEnded : Option Stop → EventState → EventState → Type 0
HasEnded stop old new = to_say old [] false ≡ record { events = new.events; stop = stop }

-- the reader has stopped where a read failed
abbrev pub HasStopped : Stop → EventState → EventState → Type 0
HasStopped stop old new = (stop.cause ≡ Read) × (to_say old [] true ≡ said_up_to new stop)

-- what a line said was kept, or why it stops the reading is told
abbrev pub HasSaid : Option StopCause → Reading (Option Event) → EventState → EventState → Type 0
HasSaid cause (Ok None) old new = (cause ≡ None) × (new ≡ old)
HasSaid cause (Ok (Some e)) old new = (cause ≡ None) × (new ≡ record { lines = old.lines; events = old.events ++ e ∷ [] })
HasSaid cause (Err stop) old new = (cause ≡ Some stop) × (new ≡ old)
