use Rattle.std.proofs.Common.{◌≡◌, ◌<◌, length}
use Rattle.ecf_grammar.specs.declared.tokens.Sign.TheVariants as signs
use Rattle.ecf_parser.specs.Descent as spec
use Rattle.ecf_parser.specs.Parsers as reading
use Rattle.ecf_parser.proofs.cursor.Cursor.params.Given as goal

abbrev pub invariant-further : goal.invariant-further
invariant-further l = record { same : reading.front l.params (reading.each signs.Comma spec.param l.self) ≡ reading.list_of signs.Comma signs.CloseParen spec.param l.fn.self; fewer : length l.self < length l.fn.self }

abbrev pub decreases-further : goal.decreases-further
decreases-further l = length l.self
