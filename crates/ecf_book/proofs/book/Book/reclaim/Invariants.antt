use Rattle.ecf_book.proofs.EndLaws.{IsReclaimed}
use Rattle.ecf_book.proofs.book.Book.reclaim.Given as goal

abbrev pub invariant-loop-row : goal.invariant-loop-row
invariant-loop-row l = IsReclaimed l.initial.self l.self l.row l.count
