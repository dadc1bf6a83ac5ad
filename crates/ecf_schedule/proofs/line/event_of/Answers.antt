use Rattle.std.proofs.Common.{◌+◌, Some, None, take, sym, ap, ◌∙◌}
use Rattle.std.specs.Prelude.{option_and_then}
use Rattle.std.proofs.lemmas.List.{take_rest}
use Rattle.ecf_events.specs.Line.{actor_numbered, event_named}
use Rattle.ecf_schedule.proofs.WordLaws.{cut_at}
use Rattle.ecf_schedule.proofs.line.event_of.Goals as goal

pub returns-in-Some : goal.returns-in-Some
returns-in-Some c =
    c.event_of_actor.ensures
    ∙ ap (λ actor. option_and_then (event_named (take c.in-Some.place c.args.line.now)) (actor_numbered actor)) (take_rest c.args.line.now (c.in-Some.place + 1))
    ∙ sym (cut_at c.args.line.now (Some c.in-Some.place) (sym c.place_of_space.ensures ∙ c.in-Some.is))

pub returns-in-None : goal.returns-in-None
returns-in-None c = c.event_alone.ensures ∙ sym (cut_at c.args.line.now None (sym c.place_of_space.ensures ∙ c.in-None.is))
