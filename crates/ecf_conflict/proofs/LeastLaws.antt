-- "Before" step by step along a trace, and the least of a list number by number.
use Rattle.std.proofs.Common.{◌≡◌, ℕ, suc, ◌+◌, ◌<◌, ◌≤◌, Bool, true, false, ◌&&◌, ◌||◌, nat_lt, cond, find, List, [], ◌∷◌, ◌++◌, Option, Some, None, length, drop, get_or, ◌⊎◌, inl, inr, refl, sym, ap, ◌∙◌, arith, add-one, drop-cons}
use Rattle.std.specs.List.{list_any}
use Rattle.std.proofs.lemmas.Bool.{or_left, and_parts, and_from, both_ways, cases_lt, ltb-true, lt-ltb}
use Rattle.std.proofs.lemmas.List.{drop_all}
use Rattle.ecf_lang.specs.declared.run.Step.{Step}
use Rattle.ecf_verdicts.specs.Before.{before}
use Rattle.ecf_verdicts.specs.ListLemmas.{In, Each_at, In_from_Contains, Contains_from_In, find_some, find_none, option_cases}
use Rattle.ecf_verdicts.specs.RisingLemmas.{Rising, rising_from}
use Rattle.ecf_precedence.specs.EndLemmas.{Has_snoc, Has_front, Has_last}
use Rattle.std.specs.Prelude.{Contains}
use Rattle.std.specs.List.Sorted.{IsStrictlyIncreasing}
use Rattle.std.proofs.lemmas.Option.{same_Some}
use Rattle.ecf_conflict.specs.Least.{TellsLeast, begins, is_below}

-- any step, where a place needs one
abbrev pub any_step : Step
any_step = record { inv = 0; write = false; cell = record { object = 0; field = 0; key = 0 }; value = 0 }

pub before_at : (t : List Step) (k i j : ℕ) (d : Step) → k < length t → before (drop k t) i j ≡ (begins (get_or t k d) (drop (k + 1) t) i j || before (drop (k + 1) t) i j)
unfolding before
before_at t k i j d h = ap (λ l. before l i j) (drop-cons t k d h) ∙ ap (λ n. begins (get_or t k d) (drop n t) i j || before (drop n t) i j) (sym (add-one k))

pub before_here : (t : List Step) (k i j : ℕ) (d : Step) → k < length t → true ≡ begins (get_or t k d) (drop (k + 1) t) i j → true ≡ before (drop k t) i j
before_here t k i j d h e = sym (before_at t k i j d h ∙ or_left _ _ (sym e))

pub before_skip : (t : List Step) (k i j : ℕ) (d : Step) → k < length t → false ≡ begins (get_or t k d) (drop (k + 1) t) i j → before (drop (k + 1) t) i j ≡ before (drop k t) i j
before_skip t k i j d h e = sym (before_at t k i j d h ∙ ap (λ b. b || before (drop (k + 1) t) i j) (sym e))

pub before_end : (t : List Step) (k i j : ℕ) → length t ≤ k → before (drop k t) i j ≡ false
unfolding before
before_end t k i j h = ap (λ l. before l i j) (drop_all k t h)

pub and_assoc : (x y z : Bool) → ((x && y) && z) ≡ (x && (y && z))
and_assoc true y z = refl
and_assoc false y z = refl

-- a test along a list
pub any_here : (f : Step → Bool) (xs : List Step) (k : ℕ) (d : Step) → k < length xs → f (get_or xs k d) ≡ true → list_any f (drop k xs) ≡ true
any_here f xs k d h e = ap (λ l. list_any f l) (drop-cons xs k d h) ∙ or_left _ _ e

pub any_skip : (f : Step → Bool) (xs : List Step) (k : ℕ) (d : Step) → k < length xs → f (get_or xs k d) ≡ false → list_any f (drop (k + 1) xs) ≡ list_any f (drop k xs)
any_skip f xs k d h e = ap (λ n. list_any f (drop n xs)) (add-one k) ∙ sym (ap (λ l. list_any f l) (drop-cons xs k d h) ∙ ap (λ b. b || list_any f (drop (suc k) xs)) e)

-- the least of a list
pub tells_none : (p : ℕ → Bool) → TellsLeast p [] None
tells_none p k h = absurd (In_from_Contains [] k h)

front : (xs : List ℕ) (y k : ℕ) → Contains xs k → Contains (xs ++ y ∷ []) k
front xs y k h = Contains_from_In (xs ++ y ∷ []) k (Has_front (λ x. k ≡ x) xs y (In_from_Contains xs k h))

either : (xs : List ℕ) (y k : ℕ) → Contains (xs ++ y ∷ []) k → Contains xs k ⊎ (k ≡ y)
either xs y k h = elim (Has_snoc (λ x. k ≡ x) xs y (In_from_Contains (xs ++ y ∷ []) k h)) [ inl a ↦ inl (Contains_from_In xs k a) | inr e ↦ inr e ]

pub tells_lower : (p : ℕ → Bool) (xs : List ℕ) (y : ℕ) (o : Option ℕ) → TellsLeast p xs o → (is_below o y && p y) ≡ true → TellsLeast p (xs ++ y ∷ []) (Some y)
tells_lower p xs y None h e = record {
  member = Contains_from_In (xs ++ y ∷ []) y (Has_last (λ x. y ≡ x) xs y refl);
  passes = e;
  least = λ k c q. elim (either xs y k c) [ inl a ↦ absurd (both_ways (p k) (h k a) q) | inr s ↦ omega (arith, s) ];
}
tells_lower p xs y (Some i) h e =
    let parts = and_parts (nat_lt y i) (p y) e in
    let lower : y < i = ltb-true y i parts.0 in
    record {
      member = Contains_from_In (xs ++ y ∷ []) y (Has_last (λ x. y ≡ x) xs y refl);
      passes = parts.1;
      least = λ k c q. elim (either xs y k c) [ inl a ↦ (let above : i ≤ k = h.least k a q in omega (arith, lower, above)) | inr s ↦ omega (arith, s) ];
    }

pub tells_same : (p : ℕ → Bool) (xs : List ℕ) (y : ℕ) (o : Option ℕ) → TellsLeast p xs o → (is_below o y && p y) ≡ false → TellsLeast p (xs ++ y ∷ []) o
tells_same p xs y None h e = λ k c. elim (either xs y k c) [ inl a ↦ h k a | inr s ↦ ap p s ∙ e ]
tells_same p xs y (Some i) h e = record {
  member = front xs y i h.member;
  passes = h.passes;
  least = λ k c q. elim (either xs y k c) [
    | inl a ↦ h.least k a q
    | inr s ↦ elim (cases_lt y i) [
      | inl l ↦ absurd (both_ways _ e (and_from (nat_lt y i) (p y) (lt-ltb y i l) (ap p (sym s) ∙ q)))
      | inr g ↦ omega (arith, s, g)
    ]
  ];
}

-- the first of a rising list that passes is the least
first_least : (p : ℕ → Bool) (xs : List ℕ) (x : ℕ) → Rising xs → find p xs ≡ Some x → (k : ℕ) → In k xs → p k ≡ true → x ≤ k
first_least p [] x r e k h q = absurd h
first_least p (y ∷ ys) x r e k h q = go (p y) refl e (first_least p ys x r.1)
  where
    go : (b : Bool) → p y ≡ b → cond b (Some y) (find p ys) ≡ Some x → (find p ys ≡ Some x → (m : ℕ) → In m ys → p m ≡ true → x ≤ m) → x ≤ k
    go true f e' deep = let s : y ≡ x = same_Some y x e' in elim h [ inl here ↦ omega (arith, here, s) | inr there ↦ (let l : y < k = Each_at (λ z. y < z) ys k r.0 there in omega (arith, l, s)) ]
    go false f e' deep = elim h [ inl here ↦ absurd (both_ways (p y) f (ap p (sym here) ∙ q)) | inr there ↦ deep e' k there q ]

pub least_is_first : (p : ℕ → Bool) (xs : List ℕ) (o : Option ℕ) → TellsLeast p xs o → IsStrictlyIncreasing xs → o ≡ find p xs
least_is_first p xs None h rises = elim (option_cases (find p xs)) [
  | inl e ↦ sym e
  | inr w ↦ (let f = find_some p xs w.0 w.1 in absurd (both_ways (p w.0) (h w.0 (Contains_from_In xs w.0 f.0)) f.1))
]
least_is_first p xs (Some i) h rises = elim (option_cases (find p xs)) [
  | inl e ↦ absurd (both_ways (p i) (Each_at (λ x. p x ≡ false) xs i (find_none p xs e) (In_from_Contains xs i h.member)) h.passes)
  | inr w ↦
      let f = find_some p xs w.0 w.1 in
      let below : w.0 ≤ i = first_least p xs w.0 (rising_from xs rises) w.1 i (In_from_Contains xs i h.member) h.passes in
      let above : i ≤ w.0 = h.least w.0 (Contains_from_In xs w.0 f.0) f.1 in
      let same : i ≡ w.0 = omega (arith, below, above) in
      ap (λ x. Some x) same ∙ sym w.1
]
