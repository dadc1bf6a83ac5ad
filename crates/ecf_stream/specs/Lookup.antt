-- What a table of names finds.
use Rattle.std.specs.Prelude.{◌≡◌, ℕ, List, Option, Some, None, if◌then◌else◌}
use Rattle.std.specs.Option.{option_or}
use Rattle.std.specs.Str.{bytes_eq}
use Rattle.indexmap.specs.IndexMap.{get_by}
use Rattle.ecf_lang.specs.declared.typed.Typed.{Typed}
use Rattle.ecf_stream.specs.declared.lookup.NameTable.{NameTable}
use Rattle.ecf_stream.specs.declared.lookup.Lookup.{Lookup}
use Rattle.ecf_lines.specs.Line.{number_named, object_names}

-- the number of a name in a table
abbrev pub number_in : NameTable → List ℕ → Option ℕ
number_in table word = get_by (λ name. bytes_eq word name.items) table.numbers

-- the table finds each of these names at its first place
abbrev pub FindsNames : List (List ℕ) → NameTable → Type 0
FindsNames names table = (word : List ℕ) → number_in table word ≡ number_named names word

-- the new table finds this name too, at its number if it was not found before
abbrev pub AddsName : NameTable → NameTable → List ℕ → ℕ → Type 0
AddsName old new name number =
    (word : List ℕ) → number_in new word ≡ option_or (number_in old word) (if bytes_eq word name then Some number else None)

-- the tables find each name of the contract at its number
pub record Finds (typed : Typed) (lookup : Lookup) : Type 0 where
  pub objects : FindsNames (object_names typed) lookup.objects
  pub methods : FindsNames typed.names lookup.methods
