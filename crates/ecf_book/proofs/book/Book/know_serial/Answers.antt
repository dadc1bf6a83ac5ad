use Rattle.std.proofs.Common.{subst}
use Rattle.ecf_book.specs.Kept.{IsSerial}
use Rattle.ecf_book.proofs.SerialLaws.{serial_book}
use Rattle.ecf_book.proofs.book.Book.know_serial.Goals as goal

pub returns : goal.returns
returns c = subst IsSerial c.self.view_is (serial_book c.journal_is_legal.ensures c.ledger_is_serial.ensures c.no_watch_is_serial.ensures c.rows_agree.ensures _ _ c.self.invariant.holds)
