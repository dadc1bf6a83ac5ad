-- What holds of every line and of every schedule.
use Rattle.std.specs.Prelude.{◌≡◌, ◌<◌, ℕ, Bool, List, Some, IfSome, All}
use Rattle.ecf_core.specs.declared.event.Event.{Event}
use Rattle.ecf_core.specs.Core.{actor_of}
use Rattle.ecf_lang.specs.declared.limits.TheConstants.{MAX_ACTORS}
use Rattle.ecf_events.specs.Line.{event_of}
use Rattle.ecf_events.specs.Spelled.{SpellsEvent}
use Rattle.ecf_events.specs.Stream.{schedule_said}

-- the event that a line says is spelled by it
abbrev pub SaidIsSpelled : Type 0
SaidIsSpelled = (line : List ℕ) (e : Event) → event_of line ≡ Some e → SpellsEvent line e

-- an event that a line spells is the one that it says
abbrev pub SpelledIsSaid : Type 0
SpelledIsSaid = (line : List ℕ) (e : Event) → SpellsEvent line e → event_of line ≡ Some e

-- the actor of an event, where it has one, is one of those that there are
abbrev pub HasActor : Event → Type 0
HasActor e = IfSome (actor_of e) (λ actor. actor < MAX_ACTORS)

-- so is each actor of a schedule
abbrev pub EventsHaveActors : Type 0
EventsHaveActors = (bytes : List ℕ) (failed : Bool) → All HasActor (schedule_said bytes failed).events
