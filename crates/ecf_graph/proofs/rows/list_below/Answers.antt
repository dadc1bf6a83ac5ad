use Rattle.std.proofs.Common.{arith}
use Rattle.std.proofs.lemmas.Grind.{common_steps}
use Rattle.ecf_graph.specs.Rows.{numbers_below}
use Rattle.ecf_graph.proofs.RowLaws.{below_step, below_skip}
use Rattle.ecf_graph.proofs.rows.list_below.Goals as goal

pub loop-i-init : goal.loop-i-init
unfolding numbers_below
loop-i-init c = c.new-list.ensures.items

pub loop-i-preserved : goal.loop-i-preserved
loop-i-preserved c = grind (arith, common_steps, below_step, below_skip)
