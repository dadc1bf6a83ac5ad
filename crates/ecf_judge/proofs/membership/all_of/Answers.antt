use Rattle.std.proofs.Common.{◌<◌, ◌==◌, length, sym, ◌∙◌, arith}
use Rattle.std.proofs.lemmas.Bool.{eq-eqb, ne_eqb}
use Rattle.ecf_lang.specs.declared.run.Step.{Step}
use Rattle.ecf_judge.proofs.TraceLaws.{all_fails, all_skip, zero_step}
use Rattle.ecf_judge.proofs.membership.all_of.Goals as goal

pub loop-step-preserved : goal.loop-step-preserved
loop-step-preserved c =
    let inside : c.loop-step.step-index < length c.args.steps.now = omega arith in
    all_skip (λ (s : Step). s.inv == c.args.inv) c.args.steps.now c.loop-step.step-index zero_step inside (eq-eqb _ _ c.if-step-inv.false) ∙ c.loop-step.invariant

pub returns-then-step-inv : goal.returns-then-step-inv
returns-then-step-inv c =
    let inside : c.loop-step.step-index < length c.args.steps.now = omega arith in
    sym (sym c.loop-step.invariant ∙ all_fails (λ (s : Step). s.inv == c.args.inv) c.args.steps.now c.loop-step.step-index zero_step inside (ne_eqb _ _ c.if-step-inv.true))
