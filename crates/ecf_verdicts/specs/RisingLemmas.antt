-- Rising lists by recursion, and the lemmas that lead there from std's words and back.
use Rattle.std.proofs.Common.{ℕ, suc, zero, ◌<◌, Bool, true, false, cond, filter, List, [], ◌∷◌, length, get_or, add-one, subst, sym, zero-lt-suc, suc-le-suc, le_of_suc-le-suc, not-suc-le-zero, lt_trans}
use Rattle.std.specs.List.Sorted.{IsStrictlyIncreasing}
use Rattle.ecf_verdicts.specs.ListLemmas.{Each, Each_filter, Each_weaker}

-- each number of the list is below the later ones
abbrev pub Rising : List ℕ → Type 0
Rising [] = Unit {0}
Rising (x ∷ xs) = Each (λ y. x < y) xs × Rising xs

rising_at : (ys : List ℕ) → Rising ys → (k : ℕ) → suc k < length ys → get_or ys k 0 < get_or ys (suc k) 0
rising_at [] h k l = absurd (not-suc-le-zero l)
rising_at (y ∷ []) h k l = absurd (not-suc-le-zero (le_of_suc-le-suc l))
rising_at (y ∷ z ∷ ys) h zero l = h.0.0
rising_at (y ∷ z ∷ ys) h (suc k) l = rising_at (z ∷ ys) h.1 k (le_of_suc-le-suc l)

pub increasing_from : (xs : List ℕ) → Rising xs → IsStrictlyIncreasing xs
increasing_from xs h = λ k l. subst (λ m. get_or xs k 0 < get_or xs m 0) (sym (add-one k)) (rising_at xs h k (subst (λ m. m < length xs) (add-one k) l))

-- back from neighbours
neighbours : (xs : List ℕ) → ((k : ℕ) → suc k < length xs → get_or xs k 0 < get_or xs (suc k) 0) → Rising xs
neighbours [] h = tt
neighbours (x ∷ []) h = (tt, tt)
neighbours (x ∷ y ∷ ys) h =
    let deep = neighbours (y ∷ ys) (λ k l. h (suc k) (suc-le-suc l)) in
    let first : x < y = h 0 (suc-le-suc (zero-lt-suc (length ys))) in
    ((first, Each_weaker (λ z. y < z) (λ z. x < z) ys (λ z less. lt_trans first less) deep.0), deep)

pub rising_from : (xs : List ℕ) → IsStrictlyIncreasing xs → Rising xs
rising_from xs h = neighbours xs (λ k l. subst (λ m. get_or xs k 0 < get_or xs m 0) (add-one k) (h k (subst (λ m. m < length xs) (sym (add-one k)) l)))

pub filter_rises : (p : ℕ → Bool) (xs : List ℕ) → Rising xs → Rising (filter p xs)
filter_rises p [] r = tt
filter_rises p (x ∷ xs) r = go (p x) (filter_rises p xs r.1)
  where
    go : (b : Bool) → Rising (filter p xs) → Rising (cond b (x ∷ filter p xs) (filter p xs))
    go true deep = (Each_filter (λ y. x < y) p xs r.0, deep)
    go false deep = deep
