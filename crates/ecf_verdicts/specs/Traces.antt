-- What a run did to one object, and which invocations did it.
use Rattle.std.specs.Prelude.{ℕ, ◌==◌, nat_lt, if◌then◌else◌, List, [], ◌∷◌, filter, map, slice_index}
use Rattle.ecf_lang.specs.declared.run.Step.{Step}

-- the steps on cells of an object, in order
unfoldable pub trace : List Step → ℕ → List Step
trace steps object = filter (λ s. s.cell.object == object) steps

-- the invocation of the step at a place
abbrev pub inv_at : List Step → ℕ → ℕ
inv_at t place = slice_index (map (λ (s : Step). s.inv) t) place

-- a number joins a rising list, once
unfoldable pub with_number : ℕ → List ℕ → List ℕ
with_number i [] = i ∷ []
with_number i (j ∷ js) = if nat_lt i j then i ∷ j ∷ js else (if i == j then j ∷ js else j ∷ with_number i js)

-- the invocations that have steps, rising
unfoldable pub members : List Step → List ℕ
members [] = []
members (s ∷ rest) = with_number s.inv (members rest)

-- the objects that have steps, rising
unfoldable pub objects : List Step → List ℕ
objects [] = []
objects (s ∷ rest) = with_number s.cell.object (objects rest)
