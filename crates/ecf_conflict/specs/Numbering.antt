-- Cells numbered by their places in a list.
use Rattle.std.specs.Prelude.{◌≡◌, ◌≢◌, ◌≤◌, ◌<◌, ◌⊎◌, ℕ, false, List, length}
use Rattle.std.specs.List.{position_or_len}
use Rattle.ecf_lang.specs.declared.cell.Cell.{Cell}
use Rattle.ecf_verdicts.specs.Conflicts.{same_cell}

-- the place of a cell in a list, or the list's length where it has none
unfoldable pub cell_number : List Cell → Cell → ℕ
cell_number cells c = position_or_len (λ d. same_cell c d) cells

-- A cell d is in the list and keeps the number that it had or would have had. Another has another number, its old one
-- or, where it has no place, one past the end.
pub record IsPutIn (cells cells' : List Cell) (d : Cell) : Type 0 where
  pub own : cell_number cells' d ≡ cell_number cells d
  pub apart : (c : Cell) → same_cell c d ≡ false → cell_number cells' c ≢ cell_number cells d
  pub others : (c : Cell) → same_cell c d ≡ false →
      (cell_number cells' c ≡ cell_number cells c) ⊎ ((length cells ≤ cell_number cells c) × (length cells' ≤ cell_number cells' c))
  pub longer : length cells ≤ length cells'
  pub place : cell_number cells d < length cells'
