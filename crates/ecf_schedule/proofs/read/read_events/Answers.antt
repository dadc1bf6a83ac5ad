use Rattle.std.proofs.Common.{List, sym, subst}
use Rattle.std.specs.Prelude.{All}
use Rattle.ecf_core.specs.declared.event.Event.{Event}
use Rattle.ecf_events.specs.Laws.{HasActor}
use Rattle.ecf_schedule.specs.Said.{AreSaid, said_by}
use Rattle.ecf_schedule.proofs.ReadLaws.{are_said, have_actors}
use Rattle.ecf_schedule.proofs.read.read_events.Goals as goal

pub returns-clause-said : goal.returns-clause-said
returns-clause-said g c =
    let left = g.S.Source.left c.args.source.now in
    let left' = g.S.Source.left c.read_through.new.source in
    let stop = c.in_ok-stop.stop in
    subst (λ (events : List Event). AreSaid left left' (said_by events stop)) (sym c.into_events.ensures)
    (are_said left left' (g.S.Source.faults c.args.source.now) (g.S.Source.faults c.read_through.new.source) (said_by c.read_through.new.reader.events stop) c.in_ok-stop.ensures.reads)

pub returns-clause-actors : goal.returns-clause-actors
returns-clause-actors g c =
    let left = g.S.Source.left c.args.source.now in
    let left' = g.S.Source.left c.read_through.new.source in
    let stop = c.in_ok-stop.stop in
    subst (All HasActor) (sym c.into_events.ensures)
    (have_actors c.events_have_actors.ensures left left' (g.S.Source.faults c.args.source.now) (g.S.Source.faults c.read_through.new.source) (said_by c.read_through.new.reader.events stop) c.in_ok-stop.ensures.reads)
