-- Writes laid over a store.
use Rattle.std.specs.Prelude.{ℕ}
use Rattle.ecf_lang.specs.declared.cell.Cell.{Cell}
use Rattle.ecf_lang.specs.Store.{Store, Cells, IsRising, IsStore, set, with_writes}

-- a store, and the number that each written cell holds now
pub record Overlaid : Type 0 where
  pub base : Store
  pub written : Cells

-- the store under the writes is one, and the writes rise by cell
pub record IsOverlaid (overlaid : Overlaid) : Type 0 where
  pub base : IsStore overlaid.base
  pub written : IsRising overlaid.written

-- the overlay after one write more
abbrev pub with_write : Overlaid → Cell → ℕ → Overlaid
with_write overlaid cell value = record overlaid { written = set overlaid.written cell value }

-- the store that an overlay stands for: that under it, after the writes
abbrev pub store_of : Overlaid → Store
store_of overlaid = with_writes overlaid.base overlaid.written
