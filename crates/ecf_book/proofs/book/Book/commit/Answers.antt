use Rattle.std.proofs.Common.{sym, ap, ◌∙◌}
use Rattle.ecf_core.specs.Book.{row_at}
use Rattle.ecf_core.specs.Calls.{commit, commit_answer, first_changed_read}
use Rattle.ecf_book.specs.Answering.{said_by_commit}
use Rattle.ecf_book.specs.Recorded.{state_of}
use Rattle.ecf_book.proofs.ReplyLaws.{due, gave_gone, commit_gone, commit_held, stales_at}
use Rattle.ecf_book.proofs.book.Book.commit.Goals as goal

pub returns-in-None-clause-answer : goal.returns-in-None-clause-answer
returns-in-None-clause-answer c =
    let s = state_of c.args.self.now in
    let j = c.args.judged in
    let gone = sym (c.in-None.ensures.stales ∙ stales_at s j.row c.row.result j.ticket c.ticket.result c.row.ensures c.ticket.ensures) in
    gave_gone _ c.args.self.now _ j.row (commit_gone s j.row j.ticket j.reads gone) (c.row-in-None-2.ensures ∙ ap (row_at s) c.row-in-None.ensures)

pub returns-in-Some-clause-answer : goal.returns-in-Some-clause-answer
returns-in-Some-clause-answer c =
    let s = state_of c.args.self.now in
    let j = c.args.judged in
    let held = sym (c.in-Some.ensures.stales ∙ stales_at s j.row c.row.result j.ticket c.ticket.result c.row.ensures c.ticket.ensures) in
    due (commit_answer s j.row j.ticket _ (first_changed_read j.reads s.ledger.store)) (commit s j.row j.ticket j.reads) (said_by_commit c.validate.result) c.args.self.now c.validate.new.self
    (commit_held s j.row j.ticket _ j.reads held) c.validate.ensures.answer
