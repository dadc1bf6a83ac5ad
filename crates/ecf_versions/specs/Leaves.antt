-- What holds of a leaf.
use Rattle.std.specs.Prelude.{◌≤◌, length}
use Rattle.ecf_lang.specs.Store.{Cells, IsRising}
use Rattle.ecf_versions.specs.declared.page.TheConstants.{MAX_ITEMS}

-- rising cells, few enough for a page
pub record IsLeaf (pairs : Cells) : Type 0 where
  pub rising : IsRising pairs
  pub few : length pairs ≤ MAX_ITEMS
