-- A row that is claimed, lost and taken back four times is claimed no more, and is placed when all work ends.
use Rattle.std.specs.Prelude.{List, [], ◌∷◌}
use Rattle.ecf_core.specs.declared.book.RowState.TheVariants as row
use Rattle.ecf_core.specs.declared.book.LogWhat.TheVariants as log
use Rattle.ecf_core.specs.declared.event.Event.TheVariants as event
use Rattle.ecf_core.specs.declared.event.Reply.TheVariants as reply
use Rattle.ecf_core_cases.specs.Adder.{add, committed}
use Rattle.ecf_core_cases.specs.Schedules.{Schedule, Line, line, line_with, entry, opening, book, ledger}

abbrev pub lines : List Line
lines =
    line_with (event.Claim 0) (reply.Work 0) (entry 0 1 log.Claimed ∷ [])
    ∷ line (event.Lose 0) reply.Lost
    ∷ line_with event.Reclaim (reply.Reclaimed 1) (entry 0 1 log.Freed ∷ [])
    ∷ line_with (event.Claim 0) (reply.Work 0) (entry 0 2 log.Claimed ∷ [])
    ∷ line (event.Lose 0) reply.Lost
    ∷ line_with event.Reclaim (reply.Reclaimed 1) (entry 0 2 log.Freed ∷ [])
    ∷ line_with (event.Claim 0) (reply.Work 0) (entry 0 3 log.Claimed ∷ [])
    ∷ line (event.Lose 0) reply.Lost
    ∷ line_with event.Reclaim (reply.Reclaimed 1) (entry 0 3 log.Freed ∷ [])
    ∷ line_with (event.Claim 0) (reply.Work 0) (entry 0 4 log.Claimed ∷ [])
    ∷ line (event.Lose 0) reply.Lost
    ∷ line_with event.Reclaim (reply.Reclaimed 1) (entry 0 4 log.Freed ∷ [])
    ∷ line (event.Claim 0) reply.Over
    ∷ []

abbrev pub four_claims_lost : Schedule
four_claims_lost = record {
  opening = opening (add 1 1 ∷ []);
  lines = lines;
  finishing = entry 0 0 (log.Finished 1) ∷ [];
  last = book (row.Done 1 ∷ []) (0 ∷ []) 4 (ledger (committed 6 ∷ []) 6);
}
