-- What a page after a write holds.
use Rattle.std.specs.Prelude.{◌≡◌, ◌<◌, ◌++◌, length, MatchOption}
use Rattle.ecf_lang.specs.declared.cell.Cell.{Cell}
use Rattle.ecf_lang.specs.Store.{Cells}
use Rattle.ecf_stores.specs.Pairs.{AreBelow}
use Rattle.ecf_versions.specs.Pages.{AreFrom}
use Rattle.ecf_versions.specs.declared.page.Grown.{Grown}

-- two parts of these pairs, neither empty, cut at a cell
pub record IsCut (first second pairs : Cells) (cell : Cell) : Type 0 where
  pub whole : first ++ second ≡ pairs
  pub first_filled : 0 < length first
  pub second_filled : 0 < length second
  pub below : AreBelow first cell
  pub from : AreFrom second cell

-- these pairs, on one page or cut in two
abbrev pub IsGrown : {P : Type 0} → (P → Cells) → Grown P → Cells → Type 0
IsGrown cells grown pairs = MatchOption grown.second (cells grown.first ≡ pairs) (λ second. IsCut (cells grown.first) (cells second.1) pairs second.0)
