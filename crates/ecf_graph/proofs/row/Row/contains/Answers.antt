use Rattle.std.proofs.Common.{sym, ◌∙◌, arith}
use Rattle.std.proofs.lemmas.Bool.{le-ltb}
use Rattle.std.proofs.lemmas.Grind.{get_or_default_zero}
use Rattle.ecf_graph.proofs.BitLaws.{member_test}
use Rattle.ecf_graph.specs.RowLemmas.{member_past}
use Rattle.ecf_graph.proofs.row.Row.contains.Goals as goal

pub returns-then-at-len : goal.returns-then-at-len
returns-then-at-len c = rw (← c.self.view_is) (member_test c.self.inside.words.items c.args.i c.index.result.now (grind (arith, get_or_default_zero)))

pub returns-else-at-len : goal.returns-else-at-len
returns-else-at-len c = rw (← c.self.view_is) (le-ltb _ _ c.if-at-len.false ∙ sym (member_past c.self.inside.words.items c.args.i (grind arith)))
