use Rattle.std.proofs.Common.{List, sym, subst}
use Rattle.ecf_book.specs.Answering.{said_by_here}
use Rattle.ecf_book.specs.Recorded.{Recorded, opening_of, state_of}
use Rattle.ecf_core.specs.declared.book.LogEntry.{LogEntry}
use Rattle.ecf_core.specs.Book.{Opening, Book}
use Rattle.ecf_core.specs.Calls.{Answer, commit_here}
use Rattle.ecf_turnstile.specs.Histories.{GrowsByAtMostOne}
use Rattle.ecf_pool.specs.Turns.{as_seat}
use Rattle.ecf_pool.specs.TurnDesks.{setup_of}
use Rattle.ecf_pool.proofs.TurnLaws.{IsTurn, answers, gives_grows}
use Rattle.ecf_pool.proofs.turn_desk.TurnDeskDesk.commit_here.Goals as goal

pub leave-requires-clause-history : goal.leave-requires-clause-history
leave-requires-clause-history g c =
    let before : Recorded = c.enter-turn.result.value in
    let later : Recorded = c.commit_here-here.new.self in
    let due : Answer = commit_here (state_of before) c.args.row c.args.ticket in
    subst (λ (l : List LogEntry). GrowsByAtMostOne l later.entries) (sym c.enter-turn.ensures.seen.0)
    (gives_grows due (said_by_here c.commit_here-here.result) before later ((c.each_call_adds_one.ensures (opening_of before.setup)).runs_here c.args.row c.args.ticket (state_of before)) c.commit_here-here.ensures)

pub returns-clause-answer : goal.returns-clause-answer
returns-clause-answer g c =
    let before : Recorded = c.enter-turn.result.value in
    let later : Recorded = c.commit_here-here.new.self in
    let turn : IsTurn (setup_of c.args.self.now) before later (as_seat c.args.seat) (as_seat c.enter-turn.result.seat) (as_seat c.leave.result) = record {
      setup_is = c.enter-turn.ensures.opening;
      saw = c.enter-turn.ensures.seen.0;
      began = c.enter-turn.ensures.seen.1;
      kept = c.enter-turn.ensures.own;
      sees = c.leave.ensures.seen;
      adds = c.leave.ensures.own;
    } in
    answers (λ (o : Opening) (b : Book). commit_here b c.args.row c.args.ticket) (setup_of c.args.self.now) before later (as_seat c.args.seat) (as_seat c.enter-turn.result.seat) (as_seat c.leave.result) turn (said_by_here c.commit_here-here.result) c.commit_here-here.ensures
