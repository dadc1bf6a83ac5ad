-- Small words for cells, steps and orders.
use Rattle.std.specs.Prelude.{ℕ, true, false, List}
use Rattle.ecf_lang.specs.declared.cell.Cell.{Cell}
use Rattle.ecf_lang.specs.declared.receipt.Order.{Order}
use Rattle.ecf_lang.specs.declared.run.Step.{Step}

-- a cell by its object, field and key
abbrev pub cell : ℕ → ℕ → ℕ → Cell
cell object field key = record { object = object; field = field; key = key }

-- an invocation reads a value
abbrev pub read_step : ℕ → Cell → ℕ → Step
read_step inv c value = record { inv = inv; write = false; cell = c; value = value }

-- an invocation writes a value
abbrev pub write_step : ℕ → Cell → ℕ → Step
write_step inv c value = record { inv = inv; write = true; cell = c; value = value }

-- the named order of an object
abbrev pub order : ℕ → List ℕ → Order
order object invs = record { object = object; invs = invs }
