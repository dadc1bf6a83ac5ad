-- What an order of all members is, and what a cycle is, as tests of lists.
use Rattle.std.specs.Prelude.{ℕ, Bool, true, not, ◌&&◌, ◌==◌, nat_lt, nat_le, List, [], ◌∷◌, length, slice_index_or}
use Rattle.std.specs.List.{list_all, list_any, position_or_len}
use Rattle.ecf_graph.specs.Pairs.{joins}

-- i is one of the list
abbrev pub stands_in : List ℕ → ℕ → Bool
stands_in list i = list_any (λ x. x == i) list

-- no number stands twice
unfoldable pub is_distinct : List ℕ → Bool
is_distinct [] = true
is_distinct (x ∷ xs) = not (stands_in xs x) && is_distinct xs

-- each of the first list is one of the second
abbrev pub all_stand_in : List ℕ → List ℕ → Bool
all_stand_in xs ys = list_all (λ x. stands_in ys x) xs

-- the pair's first stands earlier than its second
abbrev pub goes_forward : List ℕ → ℕ × ℕ → Bool
goes_forward order p = nat_lt (position_or_len (λ x. x == p.0) order) (position_or_len (λ x. x == p.1) order)

-- the order lists each member once, and nothing else, and each pair goes forward
unfoldable pub is_order : List ℕ → List (ℕ × ℕ) → List ℕ → Bool
is_order members pairs order =
    (is_distinct order && (all_stand_in order members && all_stand_in members order)) && list_all (goes_forward order) pairs

-- each of the list is joined to the next, and the last to a number
unfoldable pub leads_to : List (ℕ × ℕ) → ℕ → List ℕ → Bool
leads_to pairs end [] = true
leads_to pairs end (x ∷ xs) = joins pairs x (slice_index_or xs 0 end) && leads_to pairs end xs

-- at least two members, none of them twice, each joined to the next and the last to the first
unfoldable pub is_cycle : List (ℕ × ℕ) → List ℕ → Bool
is_cycle pairs cycle = nat_le 2 (length cycle) && (is_distinct cycle && leads_to pairs (slice_index_or cycle 0 0) cycle)
