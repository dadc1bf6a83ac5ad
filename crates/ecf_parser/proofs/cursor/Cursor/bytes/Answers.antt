use Rattle.std.proofs.Common.{arith}
use Rattle.ecf_parser.proofs.CursorLaws.{bytes_first}
use Rattle.ecf_parser.proofs.cursor.Cursor.bytes.Goals as goal

pub returns-in-len1-up : goal.returns-in-len1-up
returns-in-len1-up c = λ h. bytes_first c.args.self.now c.self.inside.at c.self.inside.source.now c.self.inside.tokens.now _ (cc) (omega (arith, c.in-len1-up.len_at_least)) h
