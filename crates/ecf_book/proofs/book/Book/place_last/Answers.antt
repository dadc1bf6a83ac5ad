use Rattle.ecf_book.proofs.ReplyLaws.{first_open_turn}
use Rattle.ecf_book.proofs.book.Book.place_last.Goals as goal

pub log_placed-requires-clause-in_turn : goal.log_placed-requires-clause-in_turn
log_placed-requires-clause-in_turn c = first_open_turn c.placed_in_order.ensures c.args.self.now c.args.row c.requires.may c.requires.open
