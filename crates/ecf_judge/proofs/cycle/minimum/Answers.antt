use Rattle.std.proofs.Common.{◌<◌, length, sym, ◌∙◌, arith}
use Rattle.ecf_judge.proofs.WalkLaws.{minimum_next, minimum_end}
use Rattle.ecf_judge.proofs.cycle.minimum.Goals as goal

pub loop-i-preserved : goal.loop-i-preserved
loop-i-preserved c =
    let inside : c.loop-i.i-index < length c.args.rest.now = omega arith in
    rw c.min-least.ensures (minimum_next c.loop-i.least c.args.rest.now c.loop-i.i-index inside ∙ c.loop-i.invariant)

pub returns : goal.returns
returns c = sym (minimum_end c.loop-i.least c.args.rest.now c.loop-i.i-index (omega arith)) ∙ c.loop-i.invariant
