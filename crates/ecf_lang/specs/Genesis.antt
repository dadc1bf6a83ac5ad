-- The store of a contract before its first transaction.
use Rattle.std.specs.Prelude.{ℕ, [], map}
use Rattle.std.specs.List.{enumerate_from, flat_map}
use Rattle.ecf_lang.specs.declared.typed.Typed.{Typed}
use Rattle.ecf_lang.specs.declared.typed.TypedObject.{TypedObject}
use Rattle.ecf_lang.specs.declared.typed.TypedField.{TypedField}
use Rattle.ecf_lang.specs.Store.{Store, Cells, with_writes}

-- the initial pairs of a field, at its cells
abbrev pub field_cells : ℕ → ℕ × TypedField → Cells
field_cells object numbered =
    map (λ pair. (record { object = object; field = numbered.0; key = pair.0 }, pair.1)) numbered.1.first

-- the initial pairs of an object's fields and maps
abbrev pub object_cells : ℕ × TypedObject → Cells
object_cells numbered = flat_map (field_cells numbered.0) (enumerate_from 0 numbered.1.fields)

-- the store of the contract's initial values
abbrev pub genesis : Typed → Store
genesis typed = with_writes [] (flat_map object_cells (enumerate_from 0 typed.objects))
