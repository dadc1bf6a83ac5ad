-- Why invocations can't be placed: a cycle of them, and the first step that closes one.
use Rattle.std.specs.Prelude.{ℕ, zero, suc, Bool, true, false, ◌==◌, min, if◌then◌else◌, List, [], ◌∷◌, ◌++◌, length, take, find, Option, Some, None}
use Rattle.std.specs.List.{list_any}
use Rattle.ecf_lang.specs.declared.run.Step.{Step}
use Rattle.ecf_verdicts.specs.Before.{before}
use Rattle.ecf_verdicts.specs.Placing.{placing}

-- the least invocation of the rest that is before j; the rest rises
unfoldable pub least_before : List Step → List ℕ → ℕ → Option ℕ
least_before t rest j = find (λ i. before t i j) rest

-- i is one of the list
unfoldable pub is_among : ℕ → List ℕ → Bool
is_among i xs = list_any (λ j. i == j) xs

-- the list up to the first i, with it
unfoldable pub up_to : ℕ → List ℕ → List ℕ
up_to i [] = []
up_to i (j ∷ js) = if i == j then j ∷ [] else j ∷ up_to i js

-- the list from the first i on
unfoldable pub from : ℕ → List ℕ → List ℕ
from i [] = []
from i (j ∷ js) = if i == j then j ∷ js else from i js

-- the list up to the first i, without it
unfoldable pub until : ℕ → List ℕ → List ℕ
until i [] = []
until i (j ∷ js) = if i == j then [] else j ∷ until i js

-- the least of a number and a list
unfoldable pub minimum : ℕ → List ℕ → ℕ
minimum i [] = i
minimum i (j ∷ js) = min i (minimum j js)

-- a cycle written so that it begins with its least member
unfoldable pub rotation_to_minimum : List ℕ → List ℕ
rotation_to_minimum [] = []
rotation_to_minimum (i ∷ is) = from (minimum i is) (i ∷ is) ++ until (minimum i is) (i ∷ is)

-- The walk from a present invocation to the least of the rest that is before it, and on from there.
-- At the first repeat: the members between the two visits, each before the next. It makes at most so many moves.
unfoldable pub walk : List Step → List ℕ → ℕ → ℕ → List ℕ → List ℕ
walk t rest zero present earlier = []
walk t rest (suc n) present earlier = elim (least_before t rest present) [
  | None ↦ []
  | Some i ↦ elim (is_among i (present ∷ earlier)) [
    | true ↦ up_to i (present ∷ earlier)
    | false ↦ walk t rest n i (present ∷ earlier)
  ]
]

-- the walk from the least of the rest
unfoldable pub cycle_in : List Step → List ℕ → List ℕ
cycle_in t [] = []
cycle_in t (i ∷ is) = rotation_to_minimum (walk t (i ∷ is) (length (i ∷ is)) i [])

-- the named cycle of a trace that isn't free
unfoldable pub cycle : List Step → List ℕ
cycle t = cycle_in t (placing t).rest

-- all invocations are placed
unfoldable pub is_placed : List Step → Bool
is_placed t = elim (placing t).rest [ [] ↦ true | i ∷ is ↦ false ]

-- the first of the numbers from n on, at most so many of them, whose first part of the trace leaves a rest
unfoldable pub shortest_part : List Step → ℕ → ℕ → ℕ
shortest_part t zero n = n
shortest_part t (suc more) n = elim (is_placed (take n t)) [ true ↦ shortest_part t more (suc n) | false ↦ n ]

-- the number of steps of the shortest first part that isn't free
unfoldable pub at : List Step → ℕ
at t = shortest_part t (length t) 0
