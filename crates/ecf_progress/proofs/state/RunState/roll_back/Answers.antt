use Rattle.std.proofs.Common.{◌≡◌, ℕ, List, Option, length, reverse, take, drop, ap, sym, subst, ◌∙◌, arith}
use Rattle.std.proofs.lemmas.List.{length-take-le}
use Rattle.ecf_lang.specs.declared.cell.Cell.{Cell}
use Rattle.ecf_lang.specs.declared.run.Step.{Step}
use Rattle.ecf_lang.specs.declared.run.Invocation.{Invocation}
use Rattle.ecf_lang.specs.Store.{Cells}
use Rattle.ecf_progress.specs.Charges.{ChargesFit}
use Rattle.ecf_progress.specs.Progress.{Progress}
use Rattle.ecf_progress.specs.Undo.{before, savepoints_by}
use Rattle.ecf_progress.proofs.StateSteps.{ChargesFit-undone, length-undone}
use Rattle.ecf_progress.proofs.UndoLaws.{AreMarks-wider, AreMarks-back, savepoints-back, without_popped, same_backing}
use Rattle.ecf_progress.proofs.state.RunState.roll_back.Goals as goal

pub invariant_of-self-2 : goal.invariant_of-self-2
invariant_of-self-2 g c =
    let mark = c.in-Some.mark in
    let back = AreMarks-back c.self.inside.marks.items c.pop.new.self.items mark (length c.self.inside.undo.items) (length c.self.inside.steps.items) (length c.self.inside.invocations.items) c.in-Some.ensures.items c.self.invariant.2 in (
      subst (λ (is : List Invocation). ChargesFit c.self.inside.fuel is) (sym c.mark_undone.ensures) (ChargesFit-undone c.self.inside.fuel mark.invocations c.self.inside.invocations.items c.self.invariant.0),
      c.self.invariant.1,
      AreMarks-wider (reverse c.pop.new.self.items) mark.undo mark.steps mark.invocations _ _ _ back.3
          (omega (arith, ap length c.put_all_back.ensures.undo, length-take-le mark.undo c.self.inside.undo.items back.0))
          (omega (arith, ap length c.truncate.ensures.items, length-take-le mark.steps c.self.inside.steps.items back.1))
          (omega (arith, ap length c.mark_undone.ensures, length-undone mark.invocations c.self.inside.invocations.items, back.2)),
    )

pub returns-clause-backing : goal.returns-clause-backing
returns-clause-backing g c =
    let mark = c.in-Some.mark in
    let undo = c.self.inside.undo.items in
    let written = c.self.inside.written.entries in
    let steps = c.self.inside.steps.items in
    let marks = reverse c.pop.new.self.items in
    let store = g.R.CellRead.store c.self.inside.store.now in
    let back = AreMarks-back c.self.inside.marks.items c.pop.new.self.items mark (length undo) (length steps) (length c.self.inside.invocations.items) c.in-Some.ensures.items c.self.invariant.2 in
    let same : savepoints_by c.put_all_back.new.undo.items c.put_all_back.new.written.entries c.truncate.new.self.items marks ≡ savepoints_by undo written steps marks =
    ap (λ (l : List (Cell × Option ℕ)). savepoints_by l c.put_all_back.new.written.entries c.truncate.new.self.items marks) c.put_all_back.ensures.undo
    ∙ ap (λ (cells : Cells). savepoints_by (take mark.undo undo) cells c.truncate.new.self.items marks) c.put_all_back.ensures.written
    ∙ ap (λ (list : List Step). savepoints_by (take mark.undo undo) (before (drop mark.undo undo) written) list marks) c.truncate.ensures.items
    ∙ savepoints-back undo written steps mark marks back.3 in
    same_backing store _ _ _ same (without_popped store undo written steps c.self.inside.marks.items c.pop.new.self.items mark c.args.self.now.backing c.in-Some.ensures.items (ap (λ (progress : Progress). progress.backing) c.self.view_is))
