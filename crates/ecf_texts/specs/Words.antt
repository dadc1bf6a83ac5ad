-- How names and values are spelled. A number that names nothing of the contract is spelled by no bytes.
use Rattle.std.specs.Prelude.{ℕ, zero, suc, List, [], ◌++◌, slice_get, unwrap_or, codes, decimal}
use Rattle.std.specs.List.{flat_map, zip}
use Rattle.std.specs.Option.{option_map_or}
use Rattle.ecf_lang.specs.declared.tree.Ty.{Ty}
use Rattle.ecf_lang.specs.declared.tree.Ty.TheVariants.{Num, Flag, Addr}
use Rattle.ecf_lang.specs.declared.typed.Typed.{Typed}
use Rattle.ecf_lang.specs.declared.typed.TypedObject.{TypedObject}

-- the name of an object
abbrev pub object_name : Typed → ℕ → List ℕ
object_name typed object = option_map_or (λ (o : TypedObject). o.name) (slice_get typed.objects object) []

-- the name of a method
abbrev pub method_name : Typed → ℕ → List ℕ
method_name typed method = unwrap_or (slice_get typed.names method) []

-- a flag: 0 is false
abbrev pub flag_word : ℕ → List ℕ
flag_word zero = codes "false"
flag_word (suc n) = codes "true"

-- a value by its type: a number, a flag, or the name of an object
abbrev pub value_word : Typed → Ty → ℕ → List ℕ
value_word typed Num value = decimal value
value_word typed Flag value = flag_word value
value_word typed Addr value = object_name typed value

-- arguments by their parameters' types, each after a space
abbrev pub arguments_text : Typed → List Ty → List ℕ → List ℕ
arguments_text typed params args = flat_map (λ p. codes " " ++ value_word typed p.0 p.1) (zip params args)
