-- The lines of cells, of plain fields and of maps.
use Rattle.std.specs.Prelude.{ℕ, List, [], ◌++◌, slice_get, Option, option_and_then, codes, decimal}
use Rattle.std.specs.Option.{option_map_or}
use Rattle.ecf_lang.specs.declared.cell.Cell.{Cell}
use Rattle.ecf_lang.specs.declared.typed.Typed.{Typed}
use Rattle.ecf_lang.specs.declared.typed.TypedObject.{TypedObject}
use Rattle.ecf_lang.specs.declared.typed.TypedField.{TypedField}
use Rattle.ecf_lang.specs.declared.typed.FieldKind.{FieldKind}
use Rattle.ecf_lang.specs.declared.typed.FieldKind.TheVariants.{Plain, Map}
use Rattle.ecf_texts.specs.Words.{object_name}

-- the field or map of a cell
abbrev pub field_of : Typed → Cell → Option TypedField
field_of typed cell = option_and_then (λ (o : TypedObject). slice_get o.fields cell.field) (slice_get typed.objects cell.object)

-- a map's key in brackets; a plain field has none
abbrev pub key_text : FieldKind → ℕ → List ℕ
key_text (Plain ty) key = []
key_text (Map from to) key = codes "[" ++ decimal key ++ codes "]"

-- a cell as its object, its field or map, and its key
abbrev pub cell_text : Typed → Cell → List ℕ
cell_text typed cell =
    object_name typed cell.object ++ codes "."
    ++ option_map_or (λ (f : TypedField). f.name ++ key_text f.kind cell.key) (field_of typed cell) []

-- the line of a cell and its value
abbrev pub cell_line : Typed → Cell → ℕ → List ℕ
cell_line typed cell value = cell_text typed cell ++ codes " = " ++ decimal value ++ codes "\n"
