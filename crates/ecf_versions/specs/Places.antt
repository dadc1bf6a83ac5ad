-- Where a cell is among rising ones.
use Rattle.std.specs.Prelude.{◌≡◌, ℕ, ◌+◌, ◌≤◌, List, length, take, drop, slice_get, Some, All, Result, Ok, Err}
use Rattle.std.specs.declared.cmp.Ordering.TheVariants.{Less}
use Rattle.ecf_lang.specs.declared.cell.Cell.{Cell}
use Rattle.ecf_lang.specs.Store.{cell_cmp}

-- the cells are all below this one, or all above it
abbrev pub CellsBelow : List Cell → Cell → Type 0
CellsBelow cells cell = All (λ other. cell_cmp other cell ≡ Less) cells

abbrev pub CellsAbove : List Cell → Cell → Type 0
CellsAbove cells cell = All (λ other. cell_cmp cell other ≡ Less) cells

-- the cell is at this place, those before it are below it, and those behind it above
pub record IsFound (cells : List Cell) (cell : Cell) (at : ℕ) : Type 0 where
  pub here : slice_get cells at ≡ Some cell
  pub below : CellsBelow (take at cells) cell
  pub above : CellsAbove (drop (at + 1) cells) cell

-- the cell would go to this place: those before it are below it, and those from there on above
pub record IsGap (cells : List Cell) (cell : Cell) (at : ℕ) : Type 0 where
  pub within : at ≤ length cells
  pub below : CellsBelow (take at cells) cell
  pub above : CellsAbove (drop at cells) cell

-- a search's answer: where the cell is, or where it would go
abbrev pub IsSearch : List Cell → Cell → Result ℕ ℕ → Type 0
IsSearch cells cell (Ok at) = IsFound cells cell at
IsSearch cells cell (Err at) = IsGap cells cell at
