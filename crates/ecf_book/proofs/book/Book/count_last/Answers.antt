use Rattle.std.proofs.Common.{◌<◌, arith}
use Rattle.ecf_book.proofs.ReplyLaws.{last_added, none_added}
use Rattle.ecf_book.proofs.book.Book.count_last.Goals as goal

pub returns-then-stales : goal.returns-then-stales
returns-then-stales c = last_added c.args.self.now c.log_stale.new.self c.args.row c.args.ticket c.args.stales c.args.cell c.args.was c.args.is c.if-stales.true c.log_stale.ensures

pub returns-else-stales : goal.returns-else-stales
returns-else-stales c =
    let last = c.requires.last in
    let past : 2 < c.args.stales = omega (arith, last, c.if-stales.false) in
    none_added c.args.self.now c.args.row c.args.ticket c.args.stales c.args.cell c.args.was c.args.is past
