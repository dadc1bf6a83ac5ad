use Rattle.std.proofs.Common.{◌<◌, ◌∷◌, ◌++◌, [], take, length, get_or, sym, subst, arith}
use Rattle.ecf_lang.specs.declared.run.Step.{Step}
use Rattle.ecf_conflict.specs.Seen.{IsSeen}
use Rattle.ecf_conflict.proofs.SeenLaws.{IsSeen-none}
use Rattle.ecf_conflict.proofs.PairLaws.{take_next}
use Rattle.ecf_conflict.proofs.seen.rows_before.Goals as goal

pub loop-step-init : goal.loop-step-init
loop-step-init c = IsSeen-none _ _ _ _ c.new-2.ensures.items c.new-3.ensures.items c.new-4.ensures.items

pub loop-step-preserved : goal.loop-step-preserved
loop-step-preserved c =
    let h : c.loop-step.step-index < length c.args.steps.now = omega arith in
    let next = λ (d : Step) (e : IsSeen (take c.loop-step.step-index c.args.steps.now ++ get_or c.args.steps.now c.loop-step.step-index d ∷ []) c.read.new.self.cells.keys c.read.new.self.touched.items c.read.new.self.written.items c.read.new.self.earlier.items). subst (λ u. IsSeen u c.read.new.self.cells.keys c.read.new.self.touched.items c.read.new.self.written.items c.read.new.self.earlier.items) (sym (take_next c.args.steps.now c.loop-step.step-index d h)) e in
    next _ (c.in_ok-read.ensures (take c.loop-step.step-index c.args.steps.now) c.loop-step.invariant)
