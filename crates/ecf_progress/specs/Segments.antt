-- Lists of numbers on one stack.
use Rattle.std.specs.Prelude.{ℕ, ◌≤◌, List, [], ◌∷◌, take, drop}

-- the topmost list, and those below it
pub record Lists : Type 0 where
  pub top : List ℕ
  pub below : List (List ℕ)

-- with one more list on top
abbrev pub pushed : List ℕ → Lists → Lists
pushed list lists = record { top = list; below = lists.top ∷ lists.below }

-- with this list in place of the topmost
abbrev pub with_top : Lists → List ℕ → Lists
with_top lists list = record lists { top = list }

-- the lists below the topmost
abbrev pub popped : Lists → Lists
popped lists = lowered lists.below
  where
    lowered : List (List ℕ) → Lists
    lowered [] = record { top = []; below = [] }
    lowered (list ∷ others) = record { top = list; below = others }

-- the topmost of the lists that begin at these places, the last place first; the lowest list begins with the numbers
abbrev pub top_of : List ℕ → List ℕ → List ℕ
top_of [] items = items
top_of (start ∷ starts) items = drop start items

-- the lists below it
abbrev pub below_of : List ℕ → List ℕ → List (List ℕ)
below_of [] items = []
below_of (start ∷ starts) items = top_of starts (take start items) ∷ below_of starts (take start items)

-- the places fall, the first at most so high
abbrev pub IsParted : List ℕ → ℕ → Type 0
IsParted [] len = Unit {0}
IsParted (start ∷ starts) len = (start ≤ len) × IsParted starts start
