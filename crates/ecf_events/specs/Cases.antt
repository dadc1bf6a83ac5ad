-- Schedules worked out: what they say, by computation.
use Rattle.std.specs.Prelude.{◌≡◌, ℕ, true, false, List, [], ◌∷◌, codes, Some, None, Err, Ok}
use Rattle.ecf_core.specs.declared.event.Event.{Event}
use Rattle.ecf_core.specs.declared.event.Event.TheVariants.{Claim, Run, Hand, Take, Judge, Commit, Here, Release, Lose, Reclaim}
use Rattle.ecf_lang.specs.declared.limits.TheConstants.{MAX_EVENTS}
use Rattle.ecf_lang.specs.declared.receipt.StopCause.{StopCause}
use Rattle.ecf_lang.specs.declared.receipt.StopCause.TheVariants.{Form, Many, Read}
use Rattle.ecf_events.specs.Stream.{ScheduleSaid, saying_of, schedule_said}

-- events, and a stop at a line
abbrev pub stopped : List Event → ℕ → StopCause → ScheduleSaid
stopped events line cause = record { events = events; stop = Some (record { line = line; cause = cause }) }

-- events up to the end
abbrev pub whole : List Event → ScheduleSaid
whole events = record { events = events; stop = None }

-- a text that is read to its end
abbrev pub said_by : List ℕ → ScheduleSaid
said_by text = schedule_said text false

-- each event, of the first actor and of the last
abbrev pub EachEvent : Type 0
EachEvent = said_by (codes "claim 0\nrun 00\nhand 1\ntake 01\njudge 9\ncommit 09\nhere 10\nrelease 22\nlose 23\nreclaim\n")
    ≡ whole (Claim 0 ∷ Run 0 ∷ Hand 1 ∷ Take 1 ∷ Judge 9 ∷ Commit 9 ∷ Here 10 ∷ Release 22 ∷ Lose 23 ∷ Reclaim ∷ [])

-- CR LF, a note, an empty line, and a last line without LF
abbrev pub NoteBetween : Type 0
NoteBetween = said_by (codes "claim 0\r\n# note\n\r\nrun 0") ≡ whole (Claim 0 ∷ Run 0 ∷ [])

-- the first line that is no event ends the reading
abbrev pub StopsAtForm : Type 0
StopsAtForm = (said_by (codes "claim 0\n\nclaim 24\nclaim 1\n") ≡ stopped (Claim 0 ∷ []) 3 Form)
    × (said_by (codes "claim 000") ≡ stopped [] 1 Form)
    × (said_by (codes "claim") ≡ stopped [] 1 Form)
    × (said_by (codes "claim  0") ≡ stopped [] 1 Form)
    × (said_by (codes "claim 0 ") ≡ stopped [] 1 Form)
    × (said_by (codes "reclaim 0") ≡ stopped [] 1 Form)
    × (said_by (codes "Claim 0") ≡ stopped [] 1 Form)

-- a read failed in the second line
abbrev pub StopsAtRead : Type 0
StopsAtRead = schedule_said (codes "claim 0\nrun 0") true ≡ stopped (Claim 0 ∷ []) 2 Read

-- after as many events as may be, notes are still skipped, and another line isn't looked at
abbrev pub StopsAtMany : Type 0
StopsAtMany = (saying_of MAX_EVENTS (codes "# note") ≡ Ok None) × (saying_of MAX_EVENTS (codes "claim") ≡ Err Many)
