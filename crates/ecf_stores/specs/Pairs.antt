-- Words for changes of pairs at one cell.
use Rattle.std.specs.Prelude.{◌≡◌, ◌≢◌, ℕ, Option, Some, None, All}
use Rattle.std.specs.declared.cmp.Ordering.TheVariants.{Less}
use Rattle.std.specs.Map.{remove_entry}
use Rattle.std.specs.BTreeMap.{is_at}
use Rattle.ecf_lang.specs.declared.cell.Cell.{Cell}
use Rattle.ecf_lang.specs.Store.{Store, Cells, cell_cmp, find_cell, read, set}

-- the pairs without that of the cell
abbrev pub remove_cell : Cells → Cell → Cells
remove_cell pairs cell = remove_entry (is_at (cell_cmp cell)) pairs

-- the pairs with the cell as it was found earlier: without it, or with that number
abbrev pub put_back : Cells → Cell → Option ℕ → Cells
put_back pairs cell None = remove_cell pairs cell
put_back pairs cell (Some value) = set pairs cell value

-- the cell is found as given, and each other cell as before
pub record ChangesFind (old new : Cells) (cell : Cell) (given : Option ℕ) : Type 0 where
  pub here : find_cell new cell ≡ given
  pub others : (other : Cell) → other ≢ cell → find_cell new other ≡ find_cell old other

-- the cell reads as this value, and each other cell as before
pub record ChangesRead (old new : Store) (cell : Cell) (value : ℕ) : Type 0 where
  pub here : read new cell ≡ value
  pub others : (other : Cell) → other ≢ cell → read new other ≡ read old other

-- the pairs' cells are all below the cell
abbrev pub AreBelow : Cells → Cell → Type 0
AreBelow pairs cell = All (λ pair. cell_cmp pair.0 cell ≡ Less) pairs

-- the pairs' cells are all above the cell
abbrev pub AreAbove : Cells → Cell → Type 0
AreAbove pairs cell = All (λ pair. cell_cmp cell pair.0 ≡ Less) pairs
