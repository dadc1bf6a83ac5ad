-- Three stale commits, so that the row is run here; and a lost claim, whose row is placed when all work ends.
use Rattle.std.specs.Prelude.{List, [], ◌∷◌}
use Rattle.ecf_core.specs.declared.book.RowState.TheVariants as row
use Rattle.ecf_core.specs.declared.book.LogWhat.TheVariants as log
use Rattle.ecf_core.specs.declared.event.Event.TheVariants as event
use Rattle.ecf_core.specs.declared.event.Reply.TheVariants as reply
use Rattle.ecf_core_cases.specs.Adder.{x, add, committed}
use Rattle.ecf_core_cases.specs.Schedules.{Schedule, Line, line, line_with, entry, opening, book, ledger}

abbrev pub lines : List Line
lines =
    line_with (event.Claim 0) (reply.Work 0) (entry 0 1 log.Claimed ∷ [])
    ∷ line_with (event.Claim 1) (reply.Work 3) (entry 3 2 log.Claimed ∷ [])
    ∷ line_with (event.Claim 2) (reply.Work 4) (entry 4 3 log.Claimed ∷ [])
    ∷ line (event.Lose 2) reply.Lost
    ∷ line (event.Run 1) reply.Ran
    ∷ line (event.Run 0) reply.Ran
    ∷ line (event.Judge 0) reply.Judged
    ∷ line_with (event.Commit 0) (reply.Placed 1) (entry 0 1 (log.Placed 1) ∷ [])
    ∷ line (event.Judge 1) reply.Judged
    ∷ line_with (event.Commit 1) (reply.Stale x 5 6) (entry 3 2 (log.Stale x 5 6) ∷ [])
    ∷ line (event.Run 1) reply.Ran
    ∷ line_with (event.Claim 0) (reply.Work 1) (entry 1 4 log.Claimed ∷ [])
    ∷ line (event.Run 0) reply.Ran
    ∷ line (event.Judge 0) reply.Judged
    ∷ line_with (event.Commit 0) (reply.Placed 2) (entry 1 4 (log.Placed 2) ∷ [])
    ∷ line (event.Judge 1) reply.Judged
    ∷ line_with (event.Commit 1) (reply.Stale x 6 7) (entry 3 2 (log.Stale x 6 7) ∷ [])
    ∷ line (event.Run 1) reply.Ran
    ∷ line_with (event.Claim 0) (reply.Work 2) (entry 2 5 log.Claimed ∷ [])
    ∷ line (event.Run 0) reply.Ran
    ∷ line (event.Judge 0) reply.Judged
    ∷ line_with (event.Commit 0) (reply.Placed 3) (entry 2 5 (log.Placed 3) ∷ [])
    ∷ line (event.Judge 1) reply.Judged
    ∷ line_with (event.Commit 1) (reply.LastStale x 7 8) (entry 3 2 (log.LastStale x 7 8) ∷ [])
    ∷ line_with (event.Here 1) (reply.Placed 4) (entry 3 2 (log.Here 4) ∷ [])
    ∷ []

abbrev pub stale_three_times : Schedule
stale_three_times = record {
  opening = opening (add 1 1 ∷ add 1 1 ∷ add 1 1 ∷ add 2 10 ∷ add 3 100 ∷ []);
  lines = lines;
  finishing = entry 4 3 log.Freed ∷ entry 4 0 (log.Finished 5) ∷ [];
  last = book (row.Done 1 ∷ row.Done 2 ∷ row.Done 3 ∷ row.Done 4 ∷ row.Done 5 ∷ []) (0 ∷ 1 ∷ 2 ∷ 3 ∷ 4 ∷ []) 5 (ledger (committed 6 ∷ committed 7 ∷ committed 8 ∷ committed 18 ∷ committed 118 ∷ []) 118);
}
