use Rattle.std.proofs.Common.{◌<◌, length, get_or, length-set, refl, ap, ◌∙◌, arith, rules}
use Rattle.std.proofs.lemmas.List.{take_all}
use Rattle.ecf_judge.specs.Membership.{membership}
use Rattle.ecf_verdicts.specs.Traces.{trace}
use Rattle.ecf_judge.proofs.TraceLaws.{below_next, below_none, kept_at, table_none, table_at, zero_step}
use Rattle.ecf_judge.proofs.membership.memberships_of.Goals.{then-not-is_known, else-not-is_known}
use Rattle.ecf_judge.proofs.membership.memberships_of.Goals as goal

pub loop-step-init : goal.loop-step-init
loop-step-init c = record { long = refl; tells = λ o. table_none 256 o; several = below_none 256; few = omega arith }

pub loop-step-preserved : goal.loop-step-preserved
loop-step-preserved c =
    let steps = c.args.steps.now in
    let k = c.loop-step.step-index in
    let table = c.loop-step.table in
    let at = (get_or steps k zero_step).cell.object in
    let inside : k < length steps = omega arith in
    let taken : at < length table = search rules in
    elim c.if-not-is_known.branch [
      | then-not-is_known w ↦ rw (w.table-is, w.above-is) (record {
        long = length-set _ _ _ ∙ c.loop-step.invariant.long;
        tells = table_at steps k zero_step table w.with_step-more.result inside taken c.loop-step.invariant.tells w.with_step-more.ensures;
        several = below_next table at w.with_step-more.result c.loop-step.above w.above_with-above.result taken w.above_with-above.ensures.longer w.above_with-above.ensures.several c.loop-step.invariant.several;
        few = w.above_with-above.ensures.few c.loop-step.invariant.few;
      })
      | else-not-is_known w ↦ rw (w.table-is, w.above-is) (record {
        long = c.loop-step.invariant.long;
        tells = kept_at steps k zero_step table inside (w.if-not-is_known.ensures refl) c.loop-step.invariant.tells;
        several = c.loop-step.invariant.several;
        few = c.loop-step.invariant.few;
      })
    ]

pub invariant_of-result : goal.invariant_of-result
invariant_of-result c = record { long = c.loop-step.invariant.long; several_below = c.loop-step.invariant.several; few = c.loop-step.invariant.few }

pub returns : goal.returns
returns c o = c.loop-step.invariant.tells o ∙ ap (λ u. membership (trace u o)) (take_all c.loop-step.step-index c.args.steps.now (omega arith))
