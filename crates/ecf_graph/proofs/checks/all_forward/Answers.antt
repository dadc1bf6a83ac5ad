use Rattle.std.proofs.Common.{◌∙◌, sym}
use Rattle.ecf_graph.specs.Checks.{goes_forward}
use Rattle.ecf_graph.proofs.CheckLaws.{all_fails, all_skip}
use Rattle.ecf_graph.proofs.checks.all_forward.Goals as goal

pub returns-then-not-is_forward : goal.returns-then-not-is_forward
returns-then-not-is_forward c = sym (sym c.loop-pair.invariant ∙ all_fails (goes_forward c.args.order.now) c.args.pairs.now c.loop-pair.pair-index (0, 0) c.loop-pair-test.true (sym c.is_forward.ensures ∙ c.if-not-is_forward.true))

pub loop-pair-preserved : goal.loop-pair-preserved
loop-pair-preserved c = all_skip (goes_forward c.args.order.now) c.args.pairs.now c.loop-pair.pair-index (0, 0) c.loop-pair-test.true (sym c.is_forward.ensures ∙ c.if-not-is_forward.false) ∙ c.loop-pair.invariant
