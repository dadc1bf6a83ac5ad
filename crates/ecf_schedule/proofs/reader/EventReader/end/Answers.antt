use Rattle.std.proofs.Common.{Some, None, length, sym, subst}
use Rattle.std.specs.Str.Lines.{strip_carriage_return}
use Rattle.ecf_events.specs.Stream.{saying_of}
use Rattle.ecf_lang.specs.declared.receipt.Stop.{Stop}
use Rattle.ecf_schedule.specs.Reading.{EventState, HasEnded, HasSaid, IsReading}
use Rattle.ecf_schedule.proofs.StepLaws.{at, has_ended}
use Rattle.ecf_schedule.proofs.reader.EventReader.end.Goals as goal

pub returns-in-Some : goal.returns-in-Some
returns-in-Some c =
    let i = c.self.inside in
    let lines = c.end.new.self in
    let new = c.say.new.self in
    let said = subst (λ o. HasSaid o (saying_of (length i.events.items) (strip_carriage_return lines.line)) (at lines i.events.items) new) c.in-Some.is c.in_ok-cause.ensures in
    let ended = has_ended (at i.lines i.events.items) new lines (Some c.in-Some.cause) (subst IsReading (sym c.self.view_is) c.requires) c.end.ensures.after said in
    subst (λ (old : EventState). HasEnded (Some c.stop_at.result) old new) c.self.view_is
    (subst (λ (stop : Stop). HasEnded (Some stop) (at i.lines i.events.items) new) (sym c.stop_at.ensures) ended)

pub returns-in-None : goal.returns-in-None
returns-in-None c =
    let i = c.self.inside in
    let lines = c.end.new.self in
    let new = c.say.new.self in
    let said = subst (λ o. HasSaid o (saying_of (length i.events.items) (strip_carriage_return lines.line)) (at lines i.events.items) new) c.in-None.is c.in_ok-cause.ensures in
    subst (λ (old : EventState). HasEnded None old new) c.self.view_is
    (has_ended (at i.lines i.events.items) new lines None (subst IsReading (sym c.self.view_is) c.requires) c.end.ensures.after said)
