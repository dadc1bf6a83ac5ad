-- A book that was opened without transactions has none without its receipt.
use Rattle.std.proofs.Common.{ap, map}
use Rattle.std.specs.Arc.{arc_value}
use Rattle.ecf_host.proofs.BookLaws.{opens_ok}
use Rattle.ecf_host.proofs.journal.open.Goals as goal

pub returns-clause-in_order : goal.returns-clause-in_order
returns-clause-in_order c = opens_ok (arc_value c.args.typed) (map arc_value c.new.result.items) c.open.result (ap (map arc_value) c.new.ensures.items) c.open.ensures
