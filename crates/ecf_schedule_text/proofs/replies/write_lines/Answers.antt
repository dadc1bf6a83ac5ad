use Rattle.std.proofs.Common.{None, refl}
use Rattle.std.proofs.lemmas.Slice.Zip.{either_empty_from_Zip}
use Rattle.ecf_schedule_text.proofs.PairLaws.{all_written}
use Rattle.ecf_schedule_text.proofs.replies.write_lines.Goals as goal

pub returns : goal.returns
returns c =
    all_written c.args.typed.now c.args.names.now _ _ _ _ (either_empty_from_Zip c.loop-event.event-iterator c.next.new.self None refl c.in-None.ensures.steps) c.loop-event.invariant
