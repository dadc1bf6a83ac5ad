use Rattle.std.proofs.Common.{◌≡◌, ◌+◌, ◌<◌, ◌∷◌, ◌++◌, ℕ, Bool, [], length, take, get_or, sym, ◌∙◌, arith}
use Rattle.std.proofs.lemmas.List.{take_all}
use Rattle.ecf_verdicts.specs.Before.{before}
use Rattle.ecf_verdicts.specs.Cycles.{least_before}
use Rattle.ecf_conflict.proofs.LeastLaws.{least_is_first, tells_lower, tells_none, tells_same}
use Rattle.ecf_conflict.proofs.PairLaws.{take_next}
use Rattle.ecf_conflict.proofs.least.least_before.Goals.{then-is_lower, else-is_lower}
use Rattle.ecf_conflict.proofs.least.least_before.Goals as goal

pub loop-i-init : goal.loop-i-init
loop-i-init c = tells_none (λ i. before c.args.steps.now i c.args.inv)

pub loop-i-preserved : goal.loop-i-preserved
loop-i-preserved c =
    let p : ℕ → Bool = λ i. before c.args.steps.now i c.args.inv in
    let rest = c.args.rest.now in
    let k = c.loop-i.i-index in
    let y = get_or rest k 0 in
    let inside : k < length rest = omega arith in
    let longer : take (k + 1) rest ≡ take k rest ++ y ∷ [] = take_next rest k 0 inside in
    elim c.if-is_lower.branch [
      | then-is_lower w ↦ rw (w.least-is, longer) (tells_lower p (take k rest) y c.loop-i.least c.loop-i.invariant (sym c.is_lower.ensures ∙ w.if-is_lower.true))
      | else-is_lower w ↦ rw (w.least-is, longer) (tells_same p (take k rest) y c.loop-i.least c.loop-i.invariant (sym c.is_lower.ensures ∙ w.if-is_lower.false))
    ]

pub returns-clause-least : goal.returns-clause-least
returns-clause-least c =
    let whole : take c.loop-i.i-index c.args.rest.now ≡ c.args.rest.now = take_all c.loop-i.i-index c.args.rest.now (omega arith) in
    rw whole at c.loop-i.invariant

pub returns-clause-named : goal.returns-clause-named
unfolding least_before
returns-clause-named c rises =
    let whole : take c.loop-i.i-index c.args.rest.now ≡ c.args.rest.now = take_all c.loop-i.i-index c.args.rest.now (omega arith) in
    least_is_first (λ i. before c.args.steps.now i c.args.inv) c.args.rest.now c.loop-i.least (rw whole at c.loop-i.invariant) rises
