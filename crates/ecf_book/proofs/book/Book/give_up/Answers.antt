use Rattle.ecf_book.proofs.ReplyLaws.{last_said, entries_at}
use Rattle.ecf_book.proofs.book.Book.give_up.Goals as goal

pub returns-clause-answer : goal.returns-clause-answer
returns-clause-answer c =
    let j = c.args.judged in
    let x = c.args.change in
    record {
      reply = last_said j.row j.ticket c.args.stales x.cell x.was x.is c.requires.last;
      added = entries_at c.args.self.now c.count_last.new.self j.row j.ticket c.row-row.result c.ticket-ticket.result c.args.stales x.cell x.was x.is c.row-row.ensures c.ticket-ticket.ensures c.count_last.ensures;
    }
