-- Rows of pages behind `Arc`s, as plain data.
use Rattle.std.specs.Prelude.{◌≡◌, ℕ, ◌+◌, ◌<◌, ◌≤◌, ◌⊎◌, List, [], ◌∷◌, ◌++◌, Option, Some, None, length, map, take, drop}
use Rattle.std.specs.Arc.{arc_value}
use Rattle.ecf_lang.specs.declared.cell.Cell.{Cell}
use Rattle.ecf_lang.specs.Store.{Cells}
use Rattle.ecf_versions.specs.Pages.{Pages, cells_of, IsFrom, IsBefore, IsRow}
use Rattle.ecf_versions.specs.Grown.{IsCut}
use Rattle.ecf_versions.specs.declared.page.TheConstants.{MAX_ITEMS}
use Rattle.ecf_versions.specs.declared.page.Grown.{Grown}
use Rattle.ecf_versions.specs.declared.rows.Item.{Item}

-- the pages of a row, where a page has these cells
abbrev pub pages_of : {P : Type 0} → (P → Cells) → List (Item P) → Pages
pages_of cells items = map (λ item. (item.from, cells (arc_value item.page))) items

-- a page with cells, or no page
abbrev pub filled_page : Cell → Cells → Pages
filled_page from [] = []
filled_page from (pair ∷ pairs) = (from, pair ∷ pairs) ∷ []

-- the page that was cut off, if one was
abbrev pub second_page : {P : Type 0} → (P → Cells) → Option (Cell × P) → Pages
second_page cells None = []
second_page cells (Some second) = filled_page second.0 (cells second.1)

-- the pages that stand for one after a write: none, one or two
abbrev pub grown_pages : {P : Type 0} → (P → Cells) → Cell → Grown P → Pages
grown_pages cells from grown = filled_page from (cells grown.first) ++ second_page cells grown.second

-- a row with some more pages at a place
abbrev pub insert_pages : Pages → ℕ → Pages → Pages
insert_pages pages at more = take at pages ++ (more ++ drop at pages)

-- the cell belongs to this page: it isn't below it, if this isn't the first, and it is below the next
pub record IsPlace (pages : Pages) (cell : Cell) (at : ℕ) : Type 0 where
  pub inside : at < length pages
  pub page : Cell × Cells
  pub here : pages ≡ take at pages ++ page ∷ drop (at + 1) pages
  pub from : (at ≡ 0) ⊎ IsFrom page.0 cell
  pub next : IsBefore cell (drop (at + 1) pages)

-- two rows in the place of one, and the cell between them
pub record AreHalves (pages first : Pages) (middle : Cell) (second : Pages) : Type 0 where
  pub first_row : IsRow first
  pub second_row : IsRow second
  pub cut : IsCut (cells_of first) (cells_of second) (cells_of pages) middle

-- a branch: a row of few enough pages
pub record IsBranch (pages : Pages) : Type 0 where
  pub row : IsRow pages
  pub few : length pages ≤ MAX_ITEMS
