use Rattle.std.proofs.Common.{arith}
use Rattle.std.proofs.lemmas.Grind.{get_or_default_zero}
use Rattle.ecf_graph.proofs.BitLaws.{member_clear, member_clear_past}
use Rattle.ecf_graph.proofs.row.Row.remove.Goals as goal

pub returns-then-at-len : goal.returns-then-at-len
returns-then-at-len c k = rw (← c.self.view_is) (member_clear c.self.inside.words.items c.args.i k c.index_mut.result.now (grind arith) (grind (arith, get_or_default_zero)))

pub returns-else-at-len : goal.returns-else-at-len
returns-else-at-len c k = rw (← c.self.view_is) (member_clear_past c.self.inside.words.items c.args.i k (grind arith))
