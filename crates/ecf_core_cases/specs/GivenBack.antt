-- A row that is handed on, taken back by all, given back and claimed again.
use Rattle.std.specs.Prelude.{List, [], ◌∷◌}
use Rattle.ecf_core.specs.declared.book.RowState.TheVariants as row
use Rattle.ecf_core.specs.declared.book.LogWhat.TheVariants as log
use Rattle.ecf_core.specs.declared.event.Event.TheVariants as event
use Rattle.ecf_core.specs.declared.event.Reply.TheVariants as reply
use Rattle.ecf_core_cases.specs.Adder.{add, committed}
use Rattle.ecf_core_cases.specs.Schedules.{Schedule, Line, line, line_with, entry, opening, book, ledger}

abbrev pub lines : List Line
lines =
    line_with (event.Claim 0) (reply.Work 0) (entry 0 1 log.Claimed ∷ [])
    ∷ line (event.Claim 1) reply.Later
    ∷ line (event.Take 1) reply.Empty
    ∷ line (event.Run 0) reply.Ran
    ∷ line (event.Hand 0) reply.Handed
    ∷ line (event.Take 1) (reply.Took 0)
    ∷ line (event.Judge 1) reply.Judged
    ∷ line_with event.Reclaim (reply.Reclaimed 1) (entry 0 1 log.Freed ∷ [])
    ∷ line (event.Commit 1) (reply.Gone (row.Free 1))
    ∷ line (event.Commit 1) reply.Refused
    ∷ line_with (event.Claim 0) (reply.Work 0) (entry 0 2 log.Claimed ∷ [])
    ∷ line_with (event.Release 0) reply.Freed (entry 0 2 log.Freed ∷ [])
    ∷ line_with (event.Claim 0) (reply.Work 0) (entry 0 3 log.Claimed ∷ [])
    ∷ line (event.Run 0) reply.Ran
    ∷ line (event.Judge 0) reply.Judged
    ∷ line_with (event.Commit 0) (reply.Placed 1) (entry 0 3 (log.Placed 1) ∷ [])
    ∷ line (event.Claim 0) reply.Over
    ∷ []

abbrev pub given_back : Schedule
given_back = record {
  opening = opening (add 1 1 ∷ []);
  lines = lines;
  finishing = [];
  last = book (row.Done 1 ∷ []) (0 ∷ []) 3 (ledger (committed 6 ∷ []) 6);
}
