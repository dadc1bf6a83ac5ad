use Rattle.std.proofs.Common.{refl, arith}
use Rattle.ecf_progress.proofs.StateSteps.{ChargesFit-grown}
use Rattle.ecf_progress.proofs.UndoLaws.{AreMarks-wider, grown}
use Rattle.ecf_progress.proofs.state.RunState.begin.Goals as goal

pub invariant_of-self-2 : goal.invariant_of-self-2
invariant_of-self-2 g c = (
  ChargesFit-grown c.self.inside.fuel c.self.inside.invocations.items c.push.new.self.items _ c.in_ok-push.ensures.items (omega arith) refl c.self.invariant.0,
  c.self.invariant.1,
  AreMarks-wider _ _ _ _ _ _ _ c.self.invariant.2 (omega arith) (omega arith) (grown c.self.inside.invocations.items c.push.new.self.items _ c.in_ok-push.ensures.items),
)
