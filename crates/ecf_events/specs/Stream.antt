-- What a whole schedule says: the events up to the first stop, and that stop. It is said of the bytes, and of whether a read failed
-- after them. Its lines are cut, skipped and limited as those of a stream are.
use Rattle.std.specs.Prelude.{ℕ, ◌+◌, Bool, true, false, nat_lt, if◌then◌else◌, List, [], ◌∷◌, Option, Some, None, Ok, Err}
use Rattle.std.specs.Option.{ok_or}
use Rattle.std.specs.Str.Lines.{strip_carriage_return}
use Rattle.ecf_core.specs.declared.event.Event.{Event}
use Rattle.ecf_lang.specs.declared.limits.TheConstants.{MAX_EVENTS, MAX_LINE_BYTES, MAX_SCHEDULE_BYTES}
use Rattle.ecf_lang.specs.declared.receipt.Stop.{Stop}
use Rattle.ecf_lang.specs.declared.receipt.StopCause.{StopCause}
use Rattle.ecf_lang.specs.declared.receipt.StopCause.TheVariants.{Form, Many, Read}
use Rattle.ecf_lines.specs.Line.{Reading, ◌>>=◌, is_skipped}
use Rattle.ecf_lines.specs.Stream.{bytes_of_line, limit_passed, lines_of}
use Rattle.ecf_events.specs.Line.{event_of}

-- ---- what a line says

-- what a line says that isn't skipped, after so many events: there may be no more than MAX_EVENTS
abbrev pub event_said : ℕ → List ℕ → Reading (Option Event)
event_said events line = if nat_lt events MAX_EVENTS then (ok_or (event_of line) Form >>= (λ e. Ok (Some e))) else Err Many

-- what a line says after so many events: nothing where it is skipped
abbrev pub saying_of : ℕ → List ℕ → Reading (Option Event)
saying_of events line = if is_skipped line then Ok None else event_said events line

-- what the last line says, which no LF ended: where a read failed behind it, it isn't whole
abbrev pub last_saying_of : ℕ → Bool → List ℕ → Reading (Option Event)
last_saying_of events false line = saying_of events line
last_saying_of events true line = Err Read

-- a line that passes a limit isn't looked at
abbrev pub unless_passed : Option StopCause → Reading (Option Event) → Reading (Option Event)
unless_passed None reading = reading
unless_passed (Some cause) reading = Err cause

-- ---- what a schedule says

-- how far a schedule has been read: the lines, the bytes and the events before
pub record Place : Type 0 where
  pub lines : ℕ
  pub bytes : ℕ
  pub events : ℕ

-- before the first line
abbrev pub start : Place
start = record { lines = 0; bytes = 0; events = 0 }

-- the limit that a line passes at a place
abbrev pub passed_at : Place → Bool → List ℕ → Option StopCause
passed_at at ended line = limit_passed MAX_LINE_BYTES MAX_SCHEDULE_BYTES at.bytes ended line

-- what a line says at a place that an LF ended, without the one CR at its end
abbrev pub saying_at : Place → List ℕ → Reading (Option Event)
saying_at at line = unless_passed (passed_at at true line) (saying_of at.events (strip_carriage_return line))

-- what the last line says at a place, behind which a read failed or not
abbrev pub last_saying_at : Place → Bool → List ℕ → Reading (Option Event)
last_saying_at at failed line = unless_passed (passed_at at false line) (last_saying_of at.events failed (strip_carriage_return line))

-- how many events there are with what a line says
abbrev pub events_with : Option Event → ℕ → ℕ
events_with None events = events
events_with (Some e) events = events + 1

-- the place behind a line that an LF ended and that says this
abbrev pub place_behind : Place → List ℕ → Option Event → Place
place_behind at line said = record { lines = at.lines + 1; bytes = at.bytes + bytes_of_line true line; events = events_with said at.events }

-- what lines say: events up to the first stop, and that stop
pub record ScheduleSaid : Type 0 where
  pub events : List Event
  pub stop : Option Stop

-- nothing, and no stop
abbrev pub nothing_said : ScheduleSaid
nothing_said = record { events = []; stop = None }

-- what a line says, and then what the rest says
abbrev pub said_first : Option Event → ScheduleSaid → ScheduleSaid
said_first None rest = rest
said_first (Some e) rest = record { events = e ∷ rest.events; stop = rest.stop }

-- a line behind so many lines that stops the reading ends what is said, and behind another one comes the rest
abbrev pub said_with : ℕ → Reading (Option Event) → (Option Event → ScheduleSaid) → ScheduleSaid
said_with lines (Err cause) rest = record { events = []; stop = Some (record { line = lines + 1; cause = cause }) }
said_with lines (Ok said) rest = said_first said (rest said)

-- what lines say from a place on
unfoldable pub said_from : Place → List (List ℕ) → Bool → ScheduleSaid
said_from at [] failed = nothing_said
said_from at (last ∷ []) failed = said_with at.lines (last_saying_at at failed last) (λ said. nothing_said)
said_from at (line ∷ next ∷ more) failed =
    said_with at.lines (saying_at at line) (λ said. said_from (place_behind at line said) (next ∷ more) failed)

-- what a schedule says: its bytes, and whether a read failed after them
abbrev pub schedule_said : List ℕ → Bool → ScheduleSaid
schedule_said bytes failed = said_from start (lines_of bytes) failed
