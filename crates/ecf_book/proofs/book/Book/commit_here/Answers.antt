use Rattle.std.proofs.Common.{sym}
use Rattle.ecf_core.specs.declared.book.LogWhat.TheVariants as log
use Rattle.ecf_core.specs.declared.event.Reply.TheVariants as reply
use Rattle.ecf_core.specs.Book.{next_seq}
use Rattle.ecf_core.specs.Calls.{commit_here, reply_with}
use Rattle.ecf_book.specs.Answering.{said_by_here}
use Rattle.ecf_book.specs.Recorded.{state_of}
use Rattle.ecf_book.proofs.ReplyLaws.{due, gave_gone, here_gone, here_held}
use Rattle.ecf_book.proofs.book.Book.commit_here.Goals as goal

pub returns-in-None : goal.returns-in-None
returns-in-None c = gave_gone _ c.args.self.now _ c.args.row (here_gone (state_of c.args.self.now) c.args.row c.args.ticket (sym c.in-None.ensures.stales)) c.row.ensures

pub returns-in-Some : goal.returns-in-Some
returns-in-Some c =
    let s = state_of c.args.self.now in
    due (reply_with (reply.Placed (next_seq s)) c.args.row c.args.ticket (log.Here (next_seq s))) (commit_here s c.args.row c.args.ticket) (said_by_here c.place_here.result) c.args.self.now c.place_here.new.self
    (here_held s c.args.row c.args.ticket _ (sym c.in-Some.ensures.stales)) c.place_here.ensures
