use Rattle.std.proofs.Common.{◌≤◌, Some, None, length, sym, subst}
use Rattle.std.specs.Str.Lines.{strip_carriage_return}
use Rattle.ecf_events.specs.Stream.{saying_of}
use Rattle.ecf_lang.specs.declared.receipt.Stop.{Stop}
use Rattle.ecf_schedule.specs.Reading.{EventState, GoesOn, HasSaid, IsReading, Stops}
use Rattle.ecf_schedule.proofs.StepLaws.{at, goes_on, line_taken, passes_bytes, passes_long}
use Rattle.ecf_schedule.proofs.reader.EventReader.step.Goals as goal

pub returns-in-Some : goal.returns-in-Some
returns-in-Some c =
    let i = c.self.inside in
    let old = at i.lines i.events.items in
    let lines = c.feed.new.self in
    let new = c.say.new.self in
    let piece = c.args.piece.now in
    let said = subst (λ o. HasSaid o (saying_of (length i.events.items) (strip_carriage_return lines.line)) (at lines i.events.items) new) c.in-Some.is c.in_ok-cause-in-Line.ensures in
    let stops = line_taken c.lines_are_cut.ensures old lines new piece c.in-Line.taken (Some c.in-Some.cause) (subst IsReading (sym c.self.view_is) c.requires) c.in-Line.ensures.answer c.in-Line.ensures.after c.in-Line.ensures.within said in
    subst (λ (s : EventState). Stops c.stop_at.result s new piece) c.self.view_is (subst (λ (stop : Stop). Stops stop old new piece) (sym c.stop_at.ensures) stops)

pub returns-in-None : goal.returns-in-None
returns-in-None c =
    let i = c.self.inside in
    let old = at i.lines i.events.items in
    let lines = c.feed.new.self in
    let new = c.say.new.self in
    let piece = c.args.piece.now in
    let said = subst (λ o. HasSaid o (saying_of (length i.events.items) (strip_carriage_return lines.line)) (at lines i.events.items) new) c.in-None.is c.in_ok-cause-in-Line.ensures in
    subst (λ (s : EventState). GoesOn s new piece c.in-Line.taken × (1 ≤ c.in-Line.taken)) c.self.view_is
    (line_taken c.lines_are_cut.ensures old lines new piece c.in-Line.taken None (subst IsReading (sym c.self.view_is) c.requires) c.in-Line.ensures.answer c.in-Line.ensures.after c.in-Line.ensures.within said)

pub returns-in-More : goal.returns-in-More
returns-in-More c =
    let i = c.self.inside in
    let piece = c.args.piece.now in
    subst (λ (s : EventState). GoesOn s (at c.feed.new.self i.events.items) piece (length piece)) c.self.view_is
    (goes_on c.lines_are_cut.ensures (at i.lines i.events.items) c.feed.new.self piece (subst IsReading (sym c.self.view_is) c.requires) c.in-More.ensures.answer c.in-More.ensures.after c.in-More.ensures.within)

pub returns-in-Long : goal.returns-in-Long
returns-in-Long c =
    let i = c.self.inside in
    let old = at i.lines i.events.items in
    let new = at c.feed.new.self i.events.items in
    let piece = c.args.piece.now in
    subst (λ (s : EventState). Stops c.stop_at-in-Long.result s new piece) c.self.view_is
    (subst (λ (stop : Stop). Stops stop old new piece) (sym c.stop_at-in-Long.ensures)
    (passes_long c.lines_are_cut.ensures old c.feed.new.self piece c.in-Long.taken (subst IsReading (sym c.self.view_is) c.requires) c.in-Long.ensures.answer c.in-Long.ensures.after))

pub returns-in-Bytes : goal.returns-in-Bytes
returns-in-Bytes c =
    let i = c.self.inside in
    let old = at i.lines i.events.items in
    let new = at c.feed.new.self i.events.items in
    let piece = c.args.piece.now in
    subst (λ (s : EventState). Stops c.stop_at-in-Bytes.result s new piece) c.self.view_is
    (subst (λ (stop : Stop). Stops stop old new piece) (sym c.stop_at-in-Bytes.ensures)
    (passes_bytes c.lines_are_cut.ensures old c.feed.new.self piece c.in-Bytes.taken (subst IsReading (sym c.self.view_is) c.requires) c.in-Bytes.ensures.answer c.in-Bytes.ensures.after))
