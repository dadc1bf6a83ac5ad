-- The further transactions stand behind the others.
use Rattle.std.proofs.Common.{map}
use Rattle.std.specs.Arc.{arc_value}
use Rattle.ecf_host.proofs.BookLaws.{places_ok}
use Rattle.ecf_host.proofs.journal.place.Goals as goal

pub returns-clause-in_order : goal.returns-clause-in_order
returns-clause-in_order c =
    places_ok c.extend_keeps.ensures c.finish_ends.ensures c.journal_grows.ensures c.args.typed.now c.args.book.now (map arc_value c.args.txs.items) c.requires.in_order c.know_history.ensures.legal
    c.extend.new.book c.finish.new.self c.finish.result c.in_ok-extend.ensures c.finish.ensures.ok
