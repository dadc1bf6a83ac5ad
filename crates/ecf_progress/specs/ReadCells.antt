-- Two lists of pairs that are the same map.
use Rattle.std.specs.Prelude.{◌≡◌}
use Rattle.ecf_lang.specs.declared.cell.Cell.{Cell}
use Rattle.ecf_lang.specs.Store.{Cells, find_cell}

-- each cell is found alike in both
abbrev pub FindAlike : Cells → Cells → Type 0
FindAlike pairs others = (cell : Cell) → find_cell pairs cell ≡ find_cell others cell
