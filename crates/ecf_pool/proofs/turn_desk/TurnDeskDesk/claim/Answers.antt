use Rattle.std.proofs.Common.{List, sym, ◌∙◌, subst}
use Rattle.ecf_book.specs.Answering.{said_by_claim}
use Rattle.ecf_book.specs.Recorded.{Recorded, opening_of, state_of}
use Rattle.ecf_core.specs.declared.book.LogEntry.{LogEntry}
use Rattle.ecf_core.specs.Book.{Opening}
use Rattle.ecf_core.specs.Calls.{Answer, claim}
use Rattle.ecf_turnstile.specs.Histories.{GrowsByAtMostOne}
use Rattle.ecf_pool.specs.Turns.{as_seat}
use Rattle.ecf_pool.specs.TurnDesks.{setup_of}
use Rattle.ecf_book.specs.declared.setup.Setup.{Setup}
use Rattle.ecf_pool.specs.Works.{IsClaimFor}
use Rattle.ecf_pool.proofs.WorkLaws.{claim_is_for}
use Rattle.ecf_pool.proofs.TurnLaws.{IsTurn, answers, gives_grows, gives_setup}
use Rattle.ecf_pool.proofs.turn_desk.TurnDeskDesk.claim.Goals as goal

pub leave-requires-clause-history : goal.leave-requires-clause-history
leave-requires-clause-history g c =
    let before : Recorded = c.enter-turn.result.value in
    let later : Recorded = c.claim-claim.new.self in
    let due : Answer = claim (opening_of before.setup) (state_of before) in
    subst (λ (l : List LogEntry). GrowsByAtMostOne l later.entries) (sym c.enter-turn.ensures.seen.0)
    (gives_grows due (said_by_claim c.claim-claim.result) before later ((c.each_call_adds_one.ensures (opening_of before.setup)).claims (state_of before)) c.claim-claim.ensures.answer)

pub returns-clause-answer : goal.returns-clause-answer
returns-clause-answer g c =
    let before : Recorded = c.enter-turn.result.value in
    let later : Recorded = c.claim-claim.new.self in
    let turn : IsTurn (setup_of c.args.self.now) before later (as_seat c.args.seat) (as_seat c.enter-turn.result.seat) (as_seat c.leave.result) = record {
      setup_is = c.enter-turn.ensures.opening;
      saw = c.enter-turn.ensures.seen.0;
      began = c.enter-turn.ensures.seen.1;
      kept = c.enter-turn.ensures.own;
      sees = c.leave.ensures.seen;
      adds = c.leave.ensures.own;
    } in
    answers (λ (o : Opening). claim o) (setup_of c.args.self.now) before later (as_seat c.args.seat) (as_seat c.enter-turn.result.seat) (as_seat c.leave.result) turn (said_by_claim c.claim-claim.result) c.claim-claim.ensures.answer

pub returns-clause-of_row : goal.returns-clause-of_row
returns-clause-of_row g c =
    let later : Recorded = c.claim-claim.new.self in
    let same = gives_setup (claim (opening_of c.enter-turn.result.value.setup) (state_of c.enter-turn.result.value)) (said_by_claim c.claim-claim.result) c.enter-turn.result.value later c.claim-claim.ensures.answer in
    subst (λ (s : Setup). IsClaimFor s c.claim-claim.result) (same ∙ c.enter-turn.ensures.opening) (claim_is_for later c.claim-claim.result c.know_history.ensures.setup.fits c.claim-claim.ensures.work)
