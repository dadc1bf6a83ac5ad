-- That an event which is printed is the one that is read.
use Rattle.std.specs.Prelude.{◌≡◌, Some}
use Rattle.ecf_core.specs.declared.event.Event.{Event}
use Rattle.ecf_events.specs.Laws.{HasActor}
use Rattle.ecf_events.specs.Line.{event_of}
use Rattle.ecf_schedule_text.specs.Lines.{event_text}

-- the line of an event says it, where its actor is one of those that there are
abbrev pub PrintedIsSaid : Type 0
PrintedIsSaid = (e : Event) → HasActor e → event_of (event_text e) ≡ Some e
