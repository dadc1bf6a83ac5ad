use Rattle.std.proofs.Common.{sym}
use Rattle.ecf_core.specs.declared.book.LogWhat.TheVariants as log
use Rattle.ecf_core.specs.declared.event.Reply.TheVariants as reply
use Rattle.ecf_book.specs.Recorded.{state_of}
use Rattle.ecf_book.proofs.ReplyLaws.{gave_gone, gave_one, release_gone, release_freed}
use Rattle.ecf_book.proofs.book.Book.release.Goals as goal

pub returns-in-None : goal.returns-in-None
returns-in-None c = gave_gone _ c.args.self.now _ c.args.row (release_gone (state_of c.args.self.now) c.args.row c.args.ticket (sym c.in-None.ensures.stales)) c.row.ensures

pub returns-in-Some : goal.returns-in-Some
returns-in-Some c =
    gave_one _ c.args.self.now _ reply.Freed c.args.row c.args.ticket log.Freed (release_freed (state_of c.args.self.now) c.args.row c.args.ticket _ (sym c.in-Some.ensures.stales)) c.log_freed.ensures
