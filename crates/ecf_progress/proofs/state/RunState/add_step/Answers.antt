use Rattle.std.proofs.Common.{◌≡◌, List, length, reverse, ap, ◌∙◌, arith}
use Rattle.ecf_lang.specs.declared.run.Step.{Step}
use Rattle.ecf_progress.specs.Progress.{Progress}
use Rattle.ecf_progress.specs.Undo.{savepoints_by}
use Rattle.ecf_progress.proofs.UndoLaws.{AreMarks-wider, grown, savepoints-step, same_backing}
use Rattle.ecf_progress.proofs.state.RunState.add_step.Goals as goal

pub invariant_of-self-2 : goal.invariant_of-self-2
invariant_of-self-2 g c =
    (c.self.invariant.0, c.self.invariant.1, AreMarks-wider _ _ _ _ _ _ _ c.self.invariant.2 (omega arith) (grown c.self.inside.steps.items c.push.new.self.items c.args.step c.in_ok-push.ensures.items) (omega arith))

pub returns-clause-backing : goal.returns-clause-backing
returns-clause-backing g c =
    let undo = c.self.inside.undo.items in
    let written = c.self.inside.written.entries in
    let marks = reverse c.self.inside.marks.items in
    let same : savepoints_by undo written c.push.new.self.items marks ≡ savepoints_by undo written c.self.inside.steps.items marks =
    ap (λ (steps : List Step). savepoints_by undo written steps marks) c.in_ok-push.ensures.items
    ∙ savepoints-step undo written c.self.inside.steps.items c.args.step marks (length undo) (length c.self.inside.invocations.items) c.self.invariant.2 in
    same_backing (g.R.CellRead.store c.self.inside.store.now) _ _ _ same (ap (λ (progress : Progress). progress.backing) c.self.view_is)
