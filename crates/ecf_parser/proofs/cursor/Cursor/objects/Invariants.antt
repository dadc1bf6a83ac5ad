use Rattle.std.proofs.Common.{◌≡◌, ◌≤◌, length}
use Rattle.ecf_parser.specs.Descent as spec
use Rattle.ecf_parser.specs.Parsers as reading
use Rattle.ecf_parser.proofs.cursor.Cursor.objects.Given as goal

abbrev pub invariant-objects : goal.invariant-objects
invariant-objects l = record { same : reading.front l.objects (reading.until spec.at_end spec.object l.self) ≡ reading.until spec.at_end spec.object l.fn.self; no_more : length l.self ≤ length l.fn.self }

abbrev pub decreases-objects : goal.decreases-objects
decreases-objects l = length l.self
