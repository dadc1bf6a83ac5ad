-- Two drafts that are handed on are taken in their order.
use Rattle.std.specs.Prelude.{List, [], ◌∷◌}
use Rattle.ecf_core.specs.declared.book.RowState.TheVariants as row
use Rattle.ecf_core.specs.declared.book.LogWhat.TheVariants as log
use Rattle.ecf_core.specs.declared.event.Event.TheVariants as event
use Rattle.ecf_core.specs.declared.event.Reply.TheVariants as reply
use Rattle.ecf_core_cases.specs.Adder.{x, add, committed}
use Rattle.ecf_core_cases.specs.Schedules.{Schedule, Line, line, line_with, entry, opening, book, ledger}

abbrev pub lines : List Line
lines =
    line_with (event.Claim 0) (reply.Work 0) (entry 0 1 log.Claimed ∷ [])
    ∷ line_with (event.Claim 1) (reply.Work 1) (entry 1 2 log.Claimed ∷ [])
    ∷ line (event.Run 0) reply.Ran
    ∷ line (event.Run 1) reply.Ran
    ∷ line (event.Hand 1) reply.Handed
    ∷ line (event.Hand 0) reply.Handed
    ∷ line (event.Take 2) (reply.Took 1)
    ∷ line (event.Judge 2) reply.Judged
    ∷ line_with (event.Commit 2) (reply.Placed 1) (entry 1 2 (log.Placed 1) ∷ [])
    ∷ line (event.Take 2) (reply.Took 0)
    ∷ line (event.Judge 2) reply.Judged
    ∷ line_with (event.Commit 2) (reply.Stale x 5 15) (entry 0 1 (log.Stale x 5 15) ∷ [])
    ∷ line (event.Run 2) reply.Ran
    ∷ line (event.Judge 2) reply.Judged
    ∷ line_with (event.Commit 2) (reply.Placed 2) (entry 0 1 (log.Placed 2) ∷ [])
    ∷ []

abbrev pub taken_in_order : Schedule
taken_in_order = record {
  opening = opening (add 1 1 ∷ add 2 10 ∷ []);
  lines = lines;
  finishing = [];
  last = book (row.Done 2 ∷ row.Done 1 ∷ []) (1 ∷ 0 ∷ []) 2 (ledger (committed 15 ∷ committed 16 ∷ []) 16);
}
