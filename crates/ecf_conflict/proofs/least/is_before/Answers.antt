use Rattle.std.proofs.Common.{sym, ◌∙◌}
use Rattle.ecf_conflict.proofs.LeastLaws.{any_step, before_here, before_skip, before_end}
use Rattle.ecf_conflict.proofs.least.is_before.Goals as goal

pub returns-then-begins_pair : goal.returns-then-begins_pair
returns-then-begins_pair c = before_here c.args.steps.now c.loop-k.k c.args.i c.args.j any_step c.loop-k-test.true (sym c.if-begins_pair.true ∙ c.begins_pair.ensures any_step) ∙ c.loop-k.invariant

pub loop-k-preserved : goal.loop-k-preserved
loop-k-preserved c = before_skip c.args.steps.now c.loop-k.k c.args.i c.args.j any_step c.loop-k-test.true (sym c.if-begins_pair.false ∙ c.begins_pair.ensures any_step) ∙ c.loop-k.invariant

pub returns : goal.returns
returns c = sym (before_end c.args.steps.now c.loop-k.k c.args.i c.args.j c.loop-k-test.false) ∙ c.loop-k.invariant
