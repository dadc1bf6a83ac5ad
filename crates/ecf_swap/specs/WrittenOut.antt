-- What an order must be for a trace, as tests that compute where both are written out.
use Rattle.std.specs.Prelude.{ℕ, Bool, true, not, nat_lt, ◌&&◌, ◌||◌, ◌==◌, List, [], ◌∷◌}
use Rattle.std.specs.List.{list_any}
use Rattle.ecf_lang.specs.declared.run.Step.{Step}
use Rattle.ecf_verdicts.specs.Conflicts.{conflicts}
use Rattle.ecf_swap.specs.Insertion.{place_in}

-- no number stands twice
abbrev pub lists_once : List ℕ → Bool
lists_once [] = true
lists_once (i ∷ is) = not (list_any (λ j. i == j) is) && lists_once is

-- each step's invocation is listed
abbrev pub lists_each : List ℕ → List Step → Bool
lists_each order [] = true
lists_each order (s ∷ t) = list_any (λ i. i == s.inv) order && lists_each order t

-- a step's invocation stands before those of the later steps that it conflicts with
abbrev pub stands_before : List ℕ → Step → List Step → Bool
stands_before order s [] = true
stands_before order s (u ∷ later) = (not (conflicts s u) || nat_lt (place_in order s.inv) (place_in order u.inv)) && stands_before order s later

-- what is before another stands before it
abbrev pub keeps_each : List ℕ → List Step → Bool
keeps_each order [] = true
keeps_each order (s ∷ later) = stands_before order s later && keeps_each order later

-- an order of all invocations of the trace
abbrev pub is_order_of : List ℕ → List Step → Bool
is_order_of order t = lists_once order && (lists_each order t && keeps_each order t)
