use Rattle.ecf_progress.proofs.UndoLaws.{AreMarks-popped}
use Rattle.ecf_progress.proofs.state.RunState.forget.Goals as goal

pub invariant_of-self-else-is_empty : goal.invariant_of-self-else-is_empty
invariant_of-self-else-is_empty g c =
    (c.self.invariant.0, c.self.invariant.1, AreMarks-popped c.self.inside.marks.items c.pop.new.self.items c.pop.result _ _ _ c.pop.ensures.items c.self.invariant.2)
