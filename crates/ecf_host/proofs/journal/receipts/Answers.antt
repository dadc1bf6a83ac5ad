-- The entries of a book in order are those of the transactions in theirs.
use Rattle.ecf_host.proofs.BookLaws.{entries_are}
use Rattle.ecf_host.proofs.journal.receipts.Goals as goal

pub returns : goal.returns
returns c = entries_are c.along_places.ensures c.args.typed.now c.args.book.now c.requires c.know_serial.ensures c.entries.result.now c.entries.ensures
