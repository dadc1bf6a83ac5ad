use Rattle.std.proofs.Common.{length}
use Rattle.ecf_schedule.proofs.PieceLaws.{Partly}
use Rattle.ecf_schedule.proofs.reader.EventReader.feed.Given as goal

abbrev pub invariant-lines : goal.invariant-lines
invariant-lines l = Partly l.fn.self l.self l.piece l.rest

abbrev pub decreases-lines : goal.decreases-lines
decreases-lines l = length l.rest
