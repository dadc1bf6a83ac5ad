use Rattle.std.proofs.Common.{◌+◌, sym, ap, subst, ◌∙◌}
use Rattle.ecf_lang.specs.declared.receipt.Stop.{Stop}
use Rattle.ecf_lang.specs.declared.receipt.StopCause.TheVariants.{Read}
use Rattle.ecf_stream.specs.LineState.{LineState}
use Rattle.ecf_schedule.specs.Reading.{EventState, HasStopped, IsReading, said_up_to}
use Rattle.ecf_schedule.proofs.StepLaws.{at, has_stopped}
use Rattle.ecf_schedule.proofs.reader.EventReader.fail.Goals as goal

pub returns : goal.returns
returns c =
    let i = c.self.inside in
    let old = at i.lines i.events.items in
    let new = at c.end.new.self i.events.items in
    subst (λ (s : EventState). HasStopped c.stop_at.result s new) c.self.view_is (
      ap (λ (stop : Stop). stop.cause) c.stop_at.ensures,
      has_stopped old (subst IsReading (sym c.self.view_is) c.requires)
          ∙ sym (ap (λ (l : LineState). said_up_to old (record { line = l.lines + 1; cause = Read })) c.end.ensures.after)
          ∙ sym (ap (said_up_to old) c.stop_at.ensures),
    )
