-- Which two steps depend on their order.
use Rattle.std.specs.Prelude.{Bool, not, ◌&&◌, ◌||◌, ◌==◌}
use Rattle.ecf_lang.specs.declared.cell.Cell.{Cell}
use Rattle.ecf_lang.specs.declared.run.Step.{Step}

-- two cells are one
unfoldable pub same_cell : Cell → Cell → Bool
same_cell a b = (a.object == b.object) && ((a.field == b.field) && (a.key == b.key))

-- two steps conflict where their invocations differ, their cells are equal and at least one writes
unfoldable pub conflicts : Step → Step → Bool
conflicts a b = not (a.inv == b.inv) && (same_cell a.cell b.cell && (a.write || b.write))
