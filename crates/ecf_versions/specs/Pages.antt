-- A row of pages, each with a cell that none of its cells is below. It stands for its pages' cells, one behind the other.
use Rattle.std.specs.Prelude.{◌≡◌, ◌<◌, false, List, [], ◌∷◌, ◌++◌, length, All}
use Rattle.std.specs.Ordering.{is_lt}
use Rattle.std.specs.declared.cmp.Ordering.TheVariants.{Less}
use Rattle.ecf_lang.specs.declared.cell.Cell.{Cell}
use Rattle.ecf_lang.specs.Store.{Cells, cell_cmp}
use Rattle.ecf_stores.specs.Pairs.{AreBelow}

-- pages, each with its least possible cell
abbrev pub Pages : Type 0
Pages = List (Cell × Cells)

-- the cells of all pages
abbrev pub cells_of : Pages → Cells
cells_of [] = []
cells_of (page ∷ pages) = page.1 ++ cells_of pages

-- a cell isn't below another
abbrev pub IsFrom : Cell → Cell → Type 0
IsFrom low cell = is_lt (cell_cmp cell low) ≡ false

-- no pair's cell is below this one
abbrev pub AreFrom : Cells → Cell → Type 0
AreFrom pairs low = All (λ pair. IsFrom low pair.0) pairs

-- the cell is below the first page, if there is one
abbrev pub IsBefore : Cell → Pages → Type 0
IsBefore cell [] = Unit {0}
IsBefore cell (page ∷ pages) = cell_cmp cell page.0 ≡ Less

-- the pairs' cells are
abbrev pub AreBefore : Cells → Pages → Type 0
AreBefore pairs [] = Unit {0}
AreBefore pairs (page ∷ pages) = AreBelow pairs page.0

-- each page's cells lie from its own least cell up to that of the next page
abbrev pub ArePaged : Pages → Type 0
ArePaged [] = Unit {0}
ArePaged (page ∷ pages) = AreFrom page.1 page.0 × AreBefore page.1 pages × IsBefore page.0 pages × ArePaged pages

-- a row: pages in order, none of them empty
pub record IsRow (pages : Pages) : Type 0 where
  pub paged : ArePaged pages
  pub filled : All (λ page. 0 < length page.1) pages
