use Rattle.std.proofs.Common.{◌≡◌, ◌++◌, take}
use Rattle.std.specs.List.{flat_map}
use Rattle.ecf_texts.specs.Cells.{cell_line}
use Rattle.ecf_receipts.proofs.cells.write_cells.Given as goal

abbrev pub invariant-loop-cell : goal.invariant-loop-cell
invariant-loop-cell l =
    l.text.items ≡ l.fn.text.items ++ flat_map (λ p. cell_line l.typed p.0 p.1) (take l.cell-index l.cells)
