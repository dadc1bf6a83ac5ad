use Rattle.std.proofs.Common.{◌≡◌, ◌≤◌, length}
use Rattle.ecf_grammar.specs.declared.tokens.Sign.TheVariants as signs
use Rattle.ecf_parser.specs.Descent as spec
use Rattle.ecf_parser.specs.Parsers as reading
use Rattle.ecf_parser.proofs.cursor.Cursor.members.Given as goal

abbrev pub invariant-members : goal.invariant-members
invariant-members l = record { same : reading.front l.members (reading.until (reading.is_sign signs.CloseBrace) spec.member l.self) ≡ reading.until (reading.is_sign signs.CloseBrace) spec.member l.fn.self; no_more : length l.self ≤ length l.fn.self }

abbrev pub decreases-members : goal.decreases-members
decreases-members l = length l.self
