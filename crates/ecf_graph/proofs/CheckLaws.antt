-- Tests along lists, a place at a time.
use Rattle.std.proofs.Common.{◌≡◌, ℕ, zero, suc, ◌+◌, ◌<◌, ◌≤◌, Bool, true, false, not, ◌&&◌, ◌||◌, ◌==◌, List, [], ◌∷◌, length, drop, take, get_or, refl, sym, ap, ◌∙◌, arith, add-one, drop-cons}
use Rattle.std.specs.List.{list_all}
use Rattle.std.proofs.lemmas.List.{drop_all, get_or-drop}
use Rattle.ecf_graph.specs.Checks.{is_distinct, leads_to, stands_in}
use Rattle.ecf_graph.specs.Pairs.{joins}
use Rattle.ecf_graph.specs.Paths.{with_pair}

pub distinct_at : (l : List ℕ) (k : ℕ) → k < length l → is_distinct (drop k l) ≡ (not (stands_in (drop (k + 1) l) (get_or l k 0)) && is_distinct (drop (k + 1) l))
unfolding is_distinct
distinct_at l k h = ap (λ x. is_distinct x) (drop-cons l k 0 h) ∙ ap (λ n. not (stands_in (drop n l) (get_or l k 0)) && is_distinct (drop n l)) (sym (add-one k))

pub distinct_end : (l : List ℕ) (k : ℕ) → length l ≤ k → is_distinct (drop k l) ≡ true
unfolding is_distinct
distinct_end l k h = ap (λ x. is_distinct x) (drop_all k l h)

pub leads_at : (pairs : List (ℕ × ℕ)) (end : ℕ) (l : List ℕ) (k : ℕ) → k < length l → leads_to pairs end (drop k l) ≡ (joins pairs (get_or l k 0) (get_or l (k + 1) end) && leads_to pairs end (drop (k + 1) l))
unfolding leads_to
leads_at pairs end l k h =
    ap (λ x. leads_to pairs end x) (drop-cons l k 0 h) ∙
    (ap (λ n. joins pairs (get_or l k 0) (get_or (drop n l) 0 end) && leads_to pairs end (drop n l)) (sym (add-one k)) ∙
    ap (λ x. joins pairs (get_or l k 0) x && leads_to pairs end (drop (k + 1) l)) (get_or-drop (k + 1) l 0 end ∙ ap (λ n. get_or l n end) (zero_more (k + 1))))
  where
    zero_more : (n : ℕ) → n + 0 ≡ n
    zero_more n = omega arith

pub leads_end : (pairs : List (ℕ × ℕ)) (end : ℕ) (l : List ℕ) (k : ℕ) → length l ≤ k → leads_to pairs end (drop k l) ≡ true
unfolding leads_to
leads_end pairs end l k h = ap (λ x. leads_to pairs end x) (drop_all k l h)

-- a pair of the list
pub joins_at : (pairs : List (ℕ × ℕ)) (k a b : ℕ) (d : ℕ × ℕ) → k < length pairs → joins (drop k pairs) a b ≡ (((a == (get_or pairs k d).0) && (b == (get_or pairs k d).1)) || joins (drop (k + 1) pairs) a b)
unfolding joins
joins_at pairs k a b d h = ap (λ l. joins l a b) (drop-cons pairs k d h) ∙ ap (λ n. ((a == (get_or pairs k d).0) && (b == (get_or pairs k d).1)) || joins (drop n pairs) a b) (sym (add-one k))

pub joins_end : (pairs : List (ℕ × ℕ)) (k a b : ℕ) → length pairs ≤ k → joins (drop k pairs) a b ≡ false
unfolding joins
joins_end pairs k a b h = ap (λ l. joins l a b) (drop_all k pairs h)

pub joins_here : (pairs : List (ℕ × ℕ)) (k a b : ℕ) (d : ℕ × ℕ) → k < length pairs → ((a == (get_or pairs k d).0) && (b == (get_or pairs k d).1)) ≡ true → joins (drop k pairs) a b ≡ true
joins_here pairs k a b d h e = joins_at pairs k a b d h ∙ ap (λ x. x || joins (drop (k + 1) pairs) a b) e

pub joins_skip : (pairs : List (ℕ × ℕ)) (k a b : ℕ) (d : ℕ × ℕ) → k < length pairs → ((a == (get_or pairs k d).0) && (b == (get_or pairs k d).1)) ≡ false → joins (drop (k + 1) pairs) a b ≡ joins (drop k pairs) a b
joins_skip pairs k a b d h e = sym (joins_at pairs k a b d h ∙ ap (λ x. x || joins (drop (k + 1) pairs) a b) e)

-- one pair more
pub joins_take : (pairs : List (ℕ × ℕ)) (k : ℕ) (d : ℕ × ℕ) → k < length pairs → (a b : ℕ) → joins (take (k + 1) pairs) a b ≡ with_pair (joins (take k pairs)) (get_or pairs k d).0 (get_or pairs k d).1 a b
unfolding joins with_pair
joins_take pairs k d h a b = ap (λ n. joins (take n pairs) a b) (add-one k) ∙ go pairs k h
  where
    or_last : (x : Bool) → (x || false) ≡ x
    or_last true = refl
    or_last false = refl

    or_assoc : (x y z : Bool) → (x || (y || z)) ≡ ((x || y) || z)
    or_assoc true y z = refl
    or_assoc false y z = refl

    go : (ps : List (ℕ × ℕ)) (n : ℕ) → n < length ps → joins (take (suc n) ps) a b ≡ (joins (take n ps) a b || ((a == (get_or ps n d).0) && (b == (get_or ps n d).1)))
    go [] n l = absurd (omega (arith, l))
    go (p ∷ ps) zero l = or_last ((a == p.0) && (b == p.1))
    go (p ∷ ps) (suc n) l = ap (λ x. ((a == p.0) && (b == p.1)) || x) (go ps n (omega (arith, l))) ∙ or_assoc ((a == p.0) && (b == p.1)) (joins (take n ps) a b) ((a == (get_or ps n d).0) && (b == (get_or ps n d).1))

-- all of a list, a place at a time
pub all_fails : {X : Type 0} (f : X → Bool) (xs : List X) (k : ℕ) (d : X) → k < length xs → f (get_or xs k d) ≡ false → list_all f (drop k xs) ≡ false
all_fails f xs k d h e = ap (λ l. list_all f l) (drop-cons xs k d h) ∙ ap (λ b. b && list_all f (drop (suc k) xs)) e

pub all_skip : {X : Type 0} (f : X → Bool) (xs : List X) (k : ℕ) (d : X) → k < length xs → f (get_or xs k d) ≡ true → list_all f (drop (k + 1) xs) ≡ list_all f (drop k xs)
all_skip f xs k d h e = ap (λ n. list_all f (drop n xs)) (add-one k) ∙ sym (ap (λ l. list_all f l) (drop-cons xs k d h) ∙ ap (λ b. b && list_all f (drop (suc k) xs)) e)
