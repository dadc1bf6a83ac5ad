use Rattle.std.proofs.Common.{◌+◌, refl, ap, ◌∙◌}
use Rattle.ecf_book.specs.Recorded.{Recorded, state_of}
use Rattle.ecf_book.proofs.ReplyLaws.{given_again, stale_may, stale_gave, stale_wants}
use Rattle.ecf_book.proofs.book.Book.give_again.Goals as goal

pub log_stale-requires-clause-may : goal.log_stale-requires-clause-may
log_stale-requires-clause-may c =
    stale_may c.args.self.now c.args.judged.row c.args.judged.ticket c.row-row.result c.ticket-ticket.result c.args.stales c.args.change.cell c.args.change.was c.args.change.is
    c.row-row.ensures c.ticket-ticket.ensures c.requires.held c.requires.again c.requires.changed

pub returns-in-Err-clause-answer : goal.returns-in-Err-clause-answer
returns-in-Err-clause-answer c =
    stale_wants c.args.self.now c.args.judged.row c.args.judged.ticket c.args.stales c.args.change.cell c.args.change.was c.args.change.is c.requires.again

pub returns-in-Ok-clause-answer : goal.returns-in-Ok-clause-answer
returns-in-Ok-clause-answer c =
    stale_gave c.args.self.now c.log_stale.new.self c.args.judged.row c.args.judged.ticket c.row-row.result c.ticket-ticket.result c.args.stales c.args.change.cell c.args.change.was c.args.change.is
    c.row-row.ensures c.ticket-ticket.ensures c.requires.again c.log_stale.ensures

pub returns-in-Ok-clause-back : goal.returns-in-Ok-clause-back
returns-in-Ok-clause-back c =
    let snapshot = c.in-Ok.ensures ∙ c.self.invariant.holds.matches.store ∙ ap (λ (b : Recorded). (state_of b).ledger.store) c.self.view_is in
    given_again c.args.self.now c.log_stale.new.self c.args.judged
    (record { row = c.row-row.result; ticket = c.ticket-ticket.result; tries = c.args.stales + 1; tx = c.into_tx.result; snapshot = c.in-Ok.snapshot })
    c.args.stales c.args.change.cell c.args.change.was c.args.change.is c.requires.of_book c.requires.held c.row-row.ensures c.ticket-ticket.ensures refl c.into_tx.ensures snapshot c.log_stale.ensures
