use Rattle.std.proofs.Common.{◌≡◌, ℕ, List, [], ◌∷◌, ◌++◌, Option, length, reverse, ap, ◌∙◌, arith}
use Rattle.ecf_lang.specs.declared.cell.Cell.{Cell}
use Rattle.ecf_lang.specs.Store.{Cells, find_cell}
use Rattle.ecf_progress.specs.Progress.{Progress}
use Rattle.ecf_progress.specs.Undo.{savepoints_by}
use Rattle.ecf_progress.proofs.UndoLaws.{AreMarks-wider, grown, savepoints-write, same_backing}
use Rattle.ecf_progress.proofs.state.RunState.overwrite.Goals as goal

pub invariant_of-self-2 : goal.invariant_of-self-2
invariant_of-self-2 g c =
    let undo : c.push_reserved.new.self.items ≡ c.self.inside.undo.items ++ (c.args.cell, c.in_ok-earlier.earlier) ∷ [] =
    c.push_reserved.ensures.items ∙ ap (λ (l : List (Cell × Option ℕ)). l ++ (c.args.cell, c.in_ok-earlier.earlier) ∷ []) c.in_ok-reserve.ensures.items in
    (c.self.invariant.0, c.self.invariant.1, AreMarks-wider _ _ _ _ _ _ _ c.self.invariant.2 (grown c.self.inside.undo.items c.push_reserved.new.self.items (c.args.cell, c.in_ok-earlier.earlier) undo) (omega arith) (omega arith))

pub returns-clause-backing : goal.returns-clause-backing
returns-clause-backing g c =
    let undo = c.self.inside.undo.items in
    let written = c.self.inside.written.entries in
    let steps = c.self.inside.steps.items in
    let marks = reverse c.self.inside.marks.items in
    let longer : c.push_reserved.new.self.items ≡ undo ++ (c.args.cell, find_cell written c.args.cell) ∷ [] =
    c.push_reserved.ensures.items ∙ ap (λ (l : List (Cell × Option ℕ)). l ++ (c.args.cell, c.in_ok-earlier.earlier) ∷ []) c.in_ok-reserve.ensures.items
    ∙ ap (λ (earlier : Option ℕ). undo ++ (c.args.cell, earlier) ∷ []) c.in_ok-earlier.ensures.old in
    let same : savepoints_by c.push_reserved.new.self.items c.insert-2.new.self.entries steps marks ≡ savepoints_by undo written steps marks =
    ap (λ (l : List (Cell × Option ℕ)). savepoints_by l c.insert-2.new.self.entries steps marks) longer
    ∙ ap (λ (cells : Cells). savepoints_by (undo ++ (c.args.cell, find_cell written c.args.cell) ∷ []) cells steps marks) c.in_ok-earlier.ensures.entries
    ∙ savepoints-write undo written c.args.cell c.args.value steps marks (length c.self.inside.invocations.items) c.in_ok-earlier.ensures.was_ordered c.self.invariant.2 in
    same_backing (g.R.CellRead.store c.self.inside.store.now) _ _ _ same (ap (λ (progress : Progress). progress.backing) c.self.view_is)
