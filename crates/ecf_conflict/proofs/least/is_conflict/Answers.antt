use Rattle.std.proofs.Common.{Bool, not, ◌&&◌, ◌||◌, ◌==◌, ◌∙◌, ap}
use Rattle.ecf_verdicts.specs.Conflicts.{conflicts, same_cell}
use Rattle.ecf_conflict.proofs.LeastLaws.{and_assoc}
use Rattle.ecf_conflict.proofs.least.is_conflict.Goals as goal

pub returns : goal.returns
unfolding conflicts same_cell
returns c =
    let a = c.args.a.now in
    let b = c.args.b.now in
    ap (λ (s : Bool). (not (a.inv == b.inv) && s) && (a.write || b.write)) c.eq-same.ensures ∙ and_assoc (not (a.inv == b.inv)) (same_cell a.cell b.cell) (a.write || b.write)
