use Rattle.ecf_book.proofs.ReplyLaws.{first_known, work_of_claim}
use Rattle.ecf_book.proofs.book.Book.claim_row.Goals as goal

pub shared-requires : goal.shared-requires
shared-requires c = first_known c.args.self.now c.args.row c.requires

pub returns-in-Ok-clause-work : goal.returns-in-Ok-clause-work
returns-in-Ok-clause-work c =
    let e = c.log_claimed-ticket.ensures in
    work_of_claim c.args.self.now _ (record { row = c.args.row; ticket = c.log_claimed-ticket.result; tries = 0; tx = c.in-Ok.tx; snapshot = c.in-Ok.snapshot })
    e.added c.in-Ok.ensures.tx e.held c.in-Ok.ensures.snapshot e.ticket
