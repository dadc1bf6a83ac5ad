use Rattle.std.proofs.Common.{refl}
use Rattle.ecf_lines.specs.Stream.{said_from}
use Rattle.ecf_lines.proofs.cases.worked_streams.Goals as goal

pub returns : goal.returns
unfolding said_from
returns c = record {
  note_between = refl;
  stops_at_method = refl;
  stops_at_read = refl;
  several_calls = refl;
  stops_at_form = (refl, refl);
  first_cause = (refl, refl, refl);
  takes_out_watch = (refl, refl, refl);
  stops_at_many = refl;
}
