use Rattle.std.proofs.Common.{subst}
use Rattle.ecf_book.specs.Kept.{HasHistory}
use Rattle.ecf_book.proofs.RoomLaws.{history_book}
use Rattle.ecf_book.proofs.book.Book.know_history.Goals as goal

pub returns : goal.returns
returns c = subst HasHistory c.self.view_is (history_book c.three_stales.ensures c.few_entries.ensures _ _ c.self.invariant.holds)
