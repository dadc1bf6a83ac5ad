-- Declarations by name: the first of a name counts. And what is visible where.
use Rattle.std.specs.Prelude.{ℕ, nat_lt, if◌then◌else◌, List, [], ◌∷◌, ◌++◌, length, Option, None, Some, is_some}
use Rattle.std.specs.List.{fold}
use Rattle.std.specs.Map.{lookup}
use Rattle.std.specs.Str.{bytes_eq}
use Rattle.ecf_lang.specs.declared.tree.Ty.{Ty}
use Rattle.ecf_lang.specs.declared.typed.FieldKind.{FieldKind}
use Rattle.ecf_lang.specs.declared.typed.Signature.{Signature}

-- names, each with what its declaration says
abbrev pub Table : Type 0 → Type 0
Table A = List (List ℕ × A)

-- what the first declaration of a name says, if there is one
abbrev pub declaration_of : {A : Type 0} → Table A → List ℕ → Option A
declaration_of table name = lookup (bytes_eq name) table

-- with one more declaration; one of a name that is there already doesn't count
abbrev pub with_declaration : {A : Type 0} → Table A → List ℕ → A → Table A
with_declaration table name a = if is_some (declaration_of table name) then table else table ++ (name, a) ∷ []

-- with one more declaration under the next number
abbrev pub with_next : {A : Type 0} → Table (ℕ × A) → List ℕ × A → Table (ℕ × A)
with_next table one = with_declaration table one.0 (length table, one.1)

-- declarations in the order of the text: each name with its number, and with what its first declaration says
abbrev pub table_of : {A : Type 0} → List (List ℕ × A) → Table (ℕ × A)
table_of = fold with_next []

-- the number of a declaration that there may be
abbrev pub number_of : {A : Type 0} → Option (ℕ × A) → ℕ
number_of None = 0
number_of (Some (n, a)) = n

-- A number as the numbered form keeps it. One past the limit is 0 there; a tree in which there is one has a fault.
abbrev pub number_below : ℕ → ℕ → ℕ
number_below limit n = if nat_lt n limit then n else 0

-- what is declared outside of methods, as an object sees it
pub record Surroundings : Type 0 where
  -- the objects of the file by number, with their tokens
  pub objects : Table (ℕ × ℕ)
  -- the method names of the file by number, with the types of the first method of that name
  pub signatures : Table (ℕ × Signature)
  -- the object's own fields and maps by number
  pub own : Table (ℕ × FieldKind)
  -- the object's own methods by number, with their tokens
  pub methods : Table (ℕ × ℕ)

-- the locals of a method at one of its places
pub record Locals : Type 0 where
  -- those that are visible, by number, with their types
  pub visible : Table (ℕ × Ty)
  -- the number that the next one gets
  pub next : ℕ
