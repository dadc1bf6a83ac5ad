-- A value that changed and came back between a run and its commit: the commit isn't stale.
use Rattle.std.specs.Prelude.{List, [], ◌∷◌}
use Rattle.ecf_core.specs.declared.book.RowState.TheVariants as row
use Rattle.ecf_core.specs.declared.book.LogWhat.TheVariants as log
use Rattle.ecf_core.specs.declared.event.Event.TheVariants as event
use Rattle.ecf_core.specs.declared.event.Reply.TheVariants as reply
use Rattle.ecf_core_cases.specs.Adder.{add, sub, committed}
use Rattle.ecf_core_cases.specs.Schedules.{Schedule, Line, line, line_with, entry, opening, book, ledger}

abbrev pub lines : List Line
lines =
    line_with (event.Claim 0) (reply.Work 0) (entry 0 1 log.Claimed ∷ [])
    ∷ line_with (event.Claim 1) (reply.Work 2) (entry 2 2 log.Claimed ∷ [])
    ∷ line (event.Run 1) reply.Ran
    ∷ line (event.Run 0) reply.Ran
    ∷ line (event.Judge 0) reply.Judged
    ∷ line_with (event.Commit 0) (reply.Placed 1) (entry 0 1 (log.Placed 1) ∷ [])
    ∷ line_with (event.Claim 0) (reply.Work 1) (entry 1 3 log.Claimed ∷ [])
    ∷ line (event.Run 0) reply.Ran
    ∷ line (event.Judge 0) reply.Judged
    ∷ line_with (event.Commit 0) (reply.Placed 2) (entry 1 3 (log.Placed 2) ∷ [])
    ∷ line (event.Judge 1) reply.Judged
    ∷ line_with (event.Commit 1) (reply.Placed 3) (entry 2 2 (log.Placed 3) ∷ [])
    ∷ []

abbrev pub value_came_back : Schedule
value_came_back = record {
  opening = opening (add 1 1 ∷ sub 1 1 ∷ add 2 10 ∷ []);
  lines = lines;
  finishing = [];
  last = book (row.Done 1 ∷ row.Done 2 ∷ row.Done 3 ∷ []) (0 ∷ 1 ∷ 2 ∷ []) 3 (ledger (committed 6 ∷ committed 5 ∷ committed 15 ∷ []) 15);
}
