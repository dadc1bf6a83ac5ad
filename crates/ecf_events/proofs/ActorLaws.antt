-- The actors of a schedule's events.
use Rattle.std.proofs.Common.{◌≡◌, ◌<◌, ℕ, Bool, true, false, if◌then◌else◌, List, [], ◌∷◌, Option, Some, None, Ok, Err, refl}
use Rattle.std.specs.Prelude.{IfOk, IfSome, All, nat_lt}
use Rattle.std.specs.Option.{ok_or}
use Rattle.std.specs.Str.Lines.{strip_carriage_return}
use Rattle.std.proofs.lemmas.List.Elements.{All-cons, All-nil}
use Rattle.ecf_core.specs.declared.event.Event.{Event}
use Rattle.ecf_core.specs.Core.{actor_of}
use Rattle.ecf_lang.specs.declared.limits.TheConstants.{MAX_ACTORS, MAX_EVENTS}
use Rattle.ecf_lang.specs.declared.receipt.StopCause.{StopCause}
use Rattle.ecf_lang.specs.declared.receipt.StopCause.TheVariants.{Form, Many}
use Rattle.ecf_lines.specs.Line.{Reading, ◌>>=◌, is_skipped}
use Rattle.ecf_lines.specs.Stream.{lines_of}
use Rattle.ecf_events.specs.Line.{event_of}
use Rattle.ecf_events.specs.Spelled.{SpellsBy, word_of}
use Rattle.ecf_events.specs.Stream.{Place, ScheduleSaid, start, event_said, saying_of, last_saying_of, unless_passed, passed_at, saying_at, last_saying_at, place_behind, said_with, said_from, nothing_said}
use Rattle.ecf_events.specs.Laws.{HasActor, EventsHaveActors}
use Rattle.ecf_events.proofs.SpelledLaws.{said_is_spelled}

-- a reading gives an event of an actor, if it gives one
abbrev GivesActor : Reading (Option Event) → Type 0
GivesActor reading = IfOk reading (λ said. IfSome said HasActor)

spelled_by : (line word : List ℕ) (o : Option ℕ) → SpellsBy line word o → IfSome o (λ actor. actor < MAX_ACTORS)
spelled_by line word None s = tt
spelled_by line word (Some actor) s = s.1.known

event_read : (line : List ℕ) (o : Option Event) → event_of line ≡ o → GivesActor (ok_or o Form >>= (λ e. Ok (Some e)))
event_read line None is = tt
event_read line (Some e) is = spelled_by line (word_of e) (actor_of e) (said_is_spelled line e is)

if_gives : (b : Bool) (r s : Reading (Option Event)) → GivesActor r → GivesActor s → GivesActor (if b then r else s)
if_gives true r s h k = h
if_gives false r s h k = k

saying_gives : (events : ℕ) (line : List ℕ) → GivesActor (saying_of events line)
saying_gives events line =
    if_gives (is_skipped line) (Ok None) (event_said events line) tt
    (if_gives (nat_lt events MAX_EVENTS) (ok_or (event_of line) Form >>= (λ e. Ok (Some e))) (Err Many) (event_read line (event_of line) refl) tt)

last_gives : (events : ℕ) (failed : Bool) (line : List ℕ) → GivesActor (last_saying_of events failed line)
last_gives events false line = saying_gives events line
last_gives events true line = tt

unless_gives : (o : Option StopCause) (r : Reading (Option Event)) → GivesActor r → GivesActor (unless_passed o r)
unless_gives None r h = h
unless_gives (Some cause) r h = tt

with_gives : (lines : ℕ) (r : Reading (Option Event)) (rest : Option Event → ScheduleSaid) → GivesActor r → ((said : Option Event) → All HasActor (rest said).events) → All HasActor (said_with lines r rest).events
with_gives lines (Err cause) rest h k = All-nil HasActor
with_gives lines (Ok None) rest h k = k None
with_gives lines (Ok (Some e)) rest h k = All-cons HasActor e (rest (Some e)).events h (k (Some e))

from_gives : (at : Place) (lines : List (List ℕ)) (failed : Bool) → All HasActor (said_from at lines failed).events
unfolding said_from
from_gives at [] failed = All-nil HasActor
from_gives at (last ∷ []) failed =
    with_gives at.lines (last_saying_at at failed last) (λ said. nothing_said)
    (unless_gives (passed_at at false last) (last_saying_of at.events failed (strip_carriage_return last)) (last_gives at.events failed (strip_carriage_return last)))
    (λ said. All-nil HasActor)
from_gives at (line ∷ next ∷ more) failed =
    with_gives at.lines (saying_at at line) (λ said. said_from (place_behind at line said) (next ∷ more) failed)
    (unless_gives (passed_at at true line) (saying_of at.events (strip_carriage_return line)) (saying_gives at.events (strip_carriage_return line)))
    (λ said. from_gives (place_behind at line said) (next ∷ more) failed)

pub events_have_actors : EventsHaveActors
events_have_actors bytes failed = from_gives start (lines_of bytes) failed
