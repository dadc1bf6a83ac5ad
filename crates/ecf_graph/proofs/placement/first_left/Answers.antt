use Rattle.std.proofs.Common.{◌<◌, length, get_or, refl, sym, ◌∙◌, arith}
use Rattle.ecf_graph.proofs.RoundLaws.{in_there}
use Rattle.ecf_graph.proofs.placement.first_left.Goals as goal

pub loop-at-preserved : goal.loop-at-preserved
loop-at-preserved c =
    let members = c.args.members.now in
    let inside : c.loop-at.at < length members = omega arith in
    sym (in_there c.args.left.now members c.loop-at.at (get_or members c.loop-at.at 0) inside refl (sym c.contains.ensures ∙ c.if-contains.false)) ∙ c.loop-at.invariant
