-- The topmost of lists on one stack.
use Rattle.std.proofs.Common.{◌≡◌, ℕ, ◌+◌, ◌-◌, ◌<◌, ◌≤◌, List, [], ◌∷◌, ◌++◌, length, get_or, set, replicate, reverse, take, Some, None, ◌⊎◌, inl, inr, refl, append_assoc, ap, sym, subst, ◌∙◌, arith}
use Rattle.std.specs.Prelude.{slice_get}
use Rattle.std.proofs.lemmas.List.{take_all, take_more, reverse-append, drop-set-add, take-set-le, replicate_more}
use Rattle.std.proofs.lemmas.Option.{slice_get_cases}
use Rattle.ecf_progress.specs.Segments.{Lists, with_top, top_of, below_of}

-- the last item is the first of the list turned round
pub last_first : (xs : List ℕ) (x : ℕ) → slice_get xs (length xs - 1) ≡ Some x → reverse xs ≡ x ∷ reverse (take (length xs - 1) xs)
last_first xs x is = by (slice_get_cases xs (length xs - 1)).1
  where
    by : ((one : ℕ) × (length xs - 1 < length xs) × (slice_get xs (length xs - 1) ≡ Some one) × (get_or xs (length xs - 1) one ≡ one)) ⊎ ((length xs ≤ length xs - 1) × (slice_get xs (length xs - 1) ≡ None)) →
        reverse xs ≡ x ∷ reverse (take (length xs - 1) xs)
    by (inr none) = absurd cc
    by (inl some) =
        let same : some.0 ≡ x = cc in
        let whole : length xs ≤ length xs - 1 + 1 = omega arith in
        let parts : xs ≡ take (length xs - 1) xs ++ x ∷ [] = sym (take_all (length xs - 1 + 1) xs whole) ∙ take_more xs (length xs - 1) some.0 some.1 ∙ ap (λ z. take (length xs - 1) xs ++ z ∷ []) (some.3 ∙ same) in
        ap reverse parts ∙ reverse-append (take (length xs - 1) xs) (x ∷ [])

-- the lists that begin at these places
abbrev pub lists_of : List ℕ → List ℕ → Lists
lists_of starts items = record { top = top_of starts items; below = below_of starts items }

-- a number of the topmost list that is changed
pub set_in_top : (starts items : List ℕ) (start n value : ℕ) → slice_get starts (length starts - 1) ≡ Some start →
    lists_of (reverse starts) (set items (start + n) value) ≡ with_top (lists_of (reverse starts) items) (set (top_of (reverse starts) items) n value)
set_in_top starts items start n value is =
    subst (λ places. lists_of places (set items (start + n) value) ≡ with_top (lists_of places items) (set (top_of places items) n value)) (sym (last_first starts start is)) (changed (reverse (take (length starts - 1) starts)))
  where
    changed : (others : List ℕ) → lists_of (start ∷ others) (set items (start + n) value) ≡ with_top (lists_of (start ∷ others) items) (set (top_of (start ∷ others) items) n value)
    changed others =
        let kept : take start (set items (start + n) value) ≡ take start items = take-set-le start items (start + n) value (omega arith) in
        λ i. record { top = drop-set-add start items n value i; below = top_of others (kept i) ∷ below_of others (kept i) }

-- one zero more at the end
pub one_zero_more : (list : List ℕ) (n : ℕ) → (list ++ replicate n 0) ++ 0 ∷ [] ≡ list ++ replicate (n + 1) 0
one_zero_more list n = rw (append_assoc, replicate_more) refl
