use Rattle.std.proofs.Common.{◌∙◌, sym}
use Rattle.ecf_graph.proofs.CheckLaws.{joins_end, joins_here, joins_skip}
use Rattle.ecf_graph.proofs.checks.has_pair.Goals as goal

pub returns-then-is_pair : goal.returns-then-is_pair
returns-then-is_pair c = sym (sym c.loop-pair.invariant ∙ joins_here c.args.pairs.now c.loop-pair.pair-index c.args.i c.args.j (0, 0) c.loop-pair-test.true (sym c.is_pair.ensures ∙ c.if-is_pair.true))

pub loop-pair-preserved : goal.loop-pair-preserved
loop-pair-preserved c = joins_skip c.args.pairs.now c.loop-pair.pair-index c.args.i c.args.j (0, 0) c.loop-pair-test.true (sym c.is_pair.ensures ∙ c.if-is_pair.false) ∙ c.loop-pair.invariant

pub returns : goal.returns
returns c = sym (sym c.loop-pair.invariant ∙ joins_end c.args.pairs.now c.loop-pair.pair-index c.args.i c.args.j c.loop-pair-test.false)
