use Rattle.std.proofs.Common.{List, sym, subst}
use Rattle.ecf_book.specs.Answering.{said_by_release}
use Rattle.ecf_book.specs.Recorded.{Recorded, opening_of, state_of}
use Rattle.ecf_core.specs.declared.book.LogEntry.{LogEntry}
use Rattle.ecf_core.specs.Book.{Opening, Book}
use Rattle.ecf_core.specs.Calls.{Answer, release}
use Rattle.ecf_turnstile.specs.Histories.{GrowsByAtMostOne}
use Rattle.ecf_pool.specs.Turns.{as_seat}
use Rattle.ecf_pool.specs.TurnDesks.{setup_of}
use Rattle.ecf_pool.proofs.TurnLaws.{IsTurn, calls, given_grows}
use Rattle.ecf_pool.proofs.turn_desk.TurnDeskDesk.release.Goals as goal

pub leave-requires-clause-history : goal.leave-requires-clause-history
leave-requires-clause-history g c =
    let before : Recorded = c.enter-turn.result.value in
    let later : Recorded = c.release-release.new.self in
    let due : Answer = release (state_of before) c.args.row c.args.ticket in
    subst (λ (l : List LogEntry). GrowsByAtMostOne l later.entries) (sym c.enter-turn.ensures.seen.0)
    (given_grows due (said_by_release c.release-release.result) before later ((c.each_call_adds_one.ensures (opening_of before.setup)).releases c.args.row c.args.ticket (state_of before)) c.release-release.ensures)

pub returns-clause-answer : goal.returns-clause-answer
returns-clause-answer g c =
    let before : Recorded = c.enter-turn.result.value in
    let later : Recorded = c.release-release.new.self in
    let turn : IsTurn (setup_of c.args.self.now) before later (as_seat c.args.seat) (as_seat c.enter-turn.result.seat) (as_seat c.leave.result) = record {
      setup_is = c.enter-turn.ensures.opening;
      saw = c.enter-turn.ensures.seen.0;
      began = c.enter-turn.ensures.seen.1;
      kept = c.enter-turn.ensures.own;
      sees = c.leave.ensures.seen;
      adds = c.leave.ensures.own;
    } in
    calls (λ (o : Opening) (b : Book). release b c.args.row c.args.ticket) (setup_of c.args.self.now) before later (as_seat c.args.seat) (as_seat c.enter-turn.result.seat) (as_seat c.leave.result) turn (said_by_release c.release-release.result) c.release-release.ensures
