use Rattle.ecf_book.proofs.EndLaws.{IsPlacedTo}
use Rattle.ecf_book.proofs.book.Book.place_open.Given as goal

abbrev pub invariant-loop-row : goal.invariant-loop-row
invariant-loop-row l = IsPlacedTo l.initial.self l.self l.row
