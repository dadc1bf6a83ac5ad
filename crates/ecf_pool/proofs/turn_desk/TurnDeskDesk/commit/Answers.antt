use Rattle.std.proofs.Common.{List, sym, subst}
use Rattle.ecf_book.specs.Answering.{said_by_commit}
use Rattle.ecf_book.specs.Recorded.{Recorded, opening_of, state_of}
use Rattle.ecf_core.specs.declared.book.LogEntry.{LogEntry}
use Rattle.ecf_core.specs.Book.{Opening, Book}
use Rattle.ecf_core.specs.Calls.{Answer, commit}
use Rattle.ecf_turnstile.specs.Histories.{GrowsByAtMostOne}
use Rattle.ecf_pool.specs.Turns.{as_seat}
use Rattle.ecf_pool.specs.TurnDesks.{setup_of}
use Rattle.ecf_pool.proofs.TurnLaws.{IsTurn, answers, gives_grows}
use Rattle.ecf_pool.proofs.turn_desk.TurnDeskDesk.commit.Goals as goal

pub leave-requires-clause-history : goal.leave-requires-clause-history
leave-requires-clause-history g c =
    let before : Recorded = c.enter-turn.result.value in
    let later : Recorded = c.commit-commit.new.self in
    let due : Answer = commit (state_of before) c.args.judged.row c.args.judged.ticket c.args.judged.reads in
    subst (λ (l : List LogEntry). GrowsByAtMostOne l later.entries) (sym c.enter-turn.ensures.seen.0)
    (gives_grows due (said_by_commit c.commit-commit.result) before later ((c.each_call_adds_one.ensures (opening_of before.setup)).commits c.args.judged.row c.args.judged.ticket c.args.judged.reads (state_of before)) c.commit-commit.ensures.answer)

pub returns-clause-answer : goal.returns-clause-answer
returns-clause-answer g c =
    let before : Recorded = c.enter-turn.result.value in
    let later : Recorded = c.commit-commit.new.self in
    let turn : IsTurn (setup_of c.args.self.now) before later (as_seat c.args.seat) (as_seat c.enter-turn.result.seat) (as_seat c.leave.result) = record {
      setup_is = c.enter-turn.ensures.opening;
      saw = c.enter-turn.ensures.seen.0;
      began = c.enter-turn.ensures.seen.1;
      kept = c.enter-turn.ensures.own;
      sees = c.leave.ensures.seen;
      adds = c.leave.ensures.own;
    } in
    answers (λ (o : Opening) (b : Book). commit b c.args.judged.row c.args.judged.ticket c.args.judged.reads) (setup_of c.args.self.now) before later (as_seat c.args.seat) (as_seat c.enter-turn.result.seat) (as_seat c.leave.result) turn (said_by_commit c.commit-commit.result) c.commit-commit.ensures.answer
