-- What the marks of open tries stand for.
use Rattle.std.specs.Prelude.{ℕ, ◌≤◌, List, [], ◌∷◌, take, drop, Option, Some, None}
use Rattle.std.specs.Map.{set_value}
use Rattle.std.specs.BTreeMap.{is_at}
use Rattle.ecf_lang.specs.declared.run.Step.{Step}
use Rattle.ecf_lang.specs.declared.cell.Cell.{Cell}
use Rattle.ecf_lang.specs.Store.{Cells, cell_cmp}
use Rattle.ecf_stores.specs.Pairs.{remove_cell}
use Rattle.ecf_progress.specs.Progress.{Savepoint}
use Rattle.ecf_progress.specs.declared.state.Mark.{Mark}

-- the pairs with a cell as it was found earlier: without it, or with that number where it is now
abbrev pub put_back : Cells → Cell → Option ℕ → Cells
put_back pairs cell None = remove_cell pairs cell
put_back pairs cell (Some value) = set_value (is_at (cell_cmp cell)) pairs value

-- the written cells before those on the undo list were overwritten, the last one last
abbrev pub before : List (Cell × Option ℕ) → Cells → Cells
before [] written = written
before (one ∷ others) written = put_back (before others written) one.0 one.1

-- what each mark goes back to
abbrev pub savepoints_by : List (Cell × Option ℕ) → Cells → List Step → List Mark → List Savepoint
savepoints_by undo written steps [] = []
savepoints_by undo written steps (mark ∷ marks) =
    record { written = before (drop mark.undo undo) written; steps = take mark.steps steps; opened = mark.invocations } ∷ savepoints_by undo written steps marks

-- the marks fall, the innermost at most so high
abbrev pub AreMarks : List Mark → ℕ → ℕ → ℕ → Type 0
AreMarks [] undo steps opened = Unit {0}
AreMarks (mark ∷ marks) undo steps opened =
    (mark.undo ≤ undo) × (mark.steps ≤ steps) × (mark.invocations ≤ opened) × AreMarks marks mark.undo mark.steps mark.invocations
