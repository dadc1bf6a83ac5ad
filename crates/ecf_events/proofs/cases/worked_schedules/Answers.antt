use Rattle.std.proofs.Common.{refl}
use Rattle.ecf_events.specs.Stream.{said_from}
use Rattle.ecf_events.proofs.cases.worked_schedules.Goals as goal

pub returns : goal.returns
unfolding said_from
returns c = record {
  each_event = refl;
  note_between = refl;
  stops_at_form = (refl, refl, refl, refl, refl, refl, refl);
  stops_at_many = (refl, refl);
  stops_at_read = refl;
}
