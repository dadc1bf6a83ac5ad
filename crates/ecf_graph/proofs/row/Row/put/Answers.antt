use Rattle.std.proofs.Common.{arith}
use Rattle.std.proofs.lemmas.Grind.{get_or_default_zero}
use Rattle.ecf_graph.proofs.BitLaws.{member_set}
use Rattle.ecf_graph.proofs.row.Row.put.Goals as goal

pub returns-clause-put : goal.returns-clause-put
returns-clause-put c k = rw (← c.self.view_is) (member_set c.self.inside.words.items c.args.i k c.index_mut.result.now (rw c.self.view_is c.requires) (grind (arith, get_or_default_zero)))
