-- Swaps that sort a trace by a rank which keeps what is before what, and that a sorted trace is together.
use Rattle.std.proofs.Common.{◌≡◌, ℕ, suc, zero, ◌+◌, ◌<◌, ◌≤◌, Bool, true, false, cond, nat_lt, List, [], ◌∷◌, ◌++◌, map, filter, length, length-append, get_or, Option, Some, None, option_map, option_and_then, inl, inr, refl, sym, ap, ◌∙◌, arith}
use Rattle.std.proofs.lemmas.Bool.{ne_eqb, cases_lt, and_from, false_from_ne_true, lt-ltb, le-ltb}
use Rattle.ecf_verdicts.specs.Laws.{inversion_count, SwapsIntoOrder}
use Rattle.ecf_lang.specs.declared.run.Step.{Step}
use Rattle.ecf_verdicts.specs.Before.{before}
use Rattle.ecf_verdicts.specs.Conflicts.{conflicts}
use Rattle.ecf_verdicts.specs.Free.{IsTogether}
use Rattle.ecf_verdicts.specs.Traces.{inv_at}
use Rattle.std.proofs.lemmas.List.{get_or-map}
use Rattle.std.proofs.lemmas.Option.{none-some, same_Some}
use Rattle.ecf_verdicts.specs.Swaps.{may_swap, swap_at, swaps}
use Rattle.ecf_verdicts.specs.BeforeLemmas.{IsBefore_from, before_from}
use Rattle.ecf_verdicts.specs.ListLemmas.{Each, In, Each_from, Each_at, Each_weaker, Has_from_in, In_get}

-- each step comes before those that it conflicts with, by rank
abbrev pub Keeps : (ℕ → ℕ) → List Step → Type 0
Keeps r [] = Unit {0}
Keeps r (s ∷ later) = Each (λ u. conflicts s u ≡ true → r s.inv < r u.inv) later × Keeps r later

-- the ranks don't fall
abbrev pub Sorted : (ℕ → ℕ) → List Step → Type 0
Sorted r [] = Unit {0}
Sorted r (s ∷ later) = Each (λ u. r s.inv ≤ r u.inv) later × Sorted r later

-- how many pass a test
abbrev pub count : (Step → Bool) → List Step → ℕ
count p t = length (filter p t)

-- so many swaps that sort
pub record SortedBy (r : ℕ → ℕ) (t : List Step) (n : ℕ) : Type 0 where
  pub places : List ℕ
  pub result : List Step
  pub swaps_to_result : swaps t places ≡ Some result
  pub sorted : Sorted r result
  pub among : (x : Step) → In x result → In x t
  pub counts : (p : Step → Bool) → count p result ≡ count p t
  pub long : length places ≡ n

pub Keeps_from : (r : ℕ → ℕ) (t : List Step) → ((i j : ℕ) → before t i j ≡ true → r i < r j) → Keeps r t
Keeps_from r [] h = tt
Keeps_from r (s ∷ later) h = (
  Each_from _ later (λ u k e. h s.inv u.inv (before_from (s ∷ later) s.inv u.inv (inl (refl, Has_from_in _ later u k (refl, e))))),
  Keeps_from r later (λ i j e. h i j (before_later s later i j e)),
)
  where
    before_later : (s : Step) (later : List Step) (i j : ℕ) → before later i j ≡ true → before (s ∷ later) i j ≡ true
    before_later s later i j e = before_from (s ∷ later) i j (inr (IsBefore_from later i j e))

swap_there : (a : Step) (t : List Step) (p : ℕ) (u : List Step) → swap_at t p ≡ Some u → swap_at (a ∷ t) (suc p) ≡ Some (a ∷ u)
unfolding swap_at
swap_there a [] p u e = absurd (none-some _ e)
swap_there a (b ∷ rest) p u e = ap (λ o. option_map (λ v. a ∷ v) o) e

first_there : (a : Step) (ps : List ℕ) (t : List Step) (p : ℕ) (o : Option (List Step)) (u : List Step) → swap_at t p ≡ o → ((v : List Step) → swaps v ps ≡ Some u → swaps (a ∷ v) (map suc ps) ≡ Some (a ∷ u)) → option_and_then (λ v. swaps v ps) o ≡ Some u → option_and_then (λ v. swaps v (map suc ps)) (swap_at (a ∷ t) (suc p)) ≡ Some (a ∷ u)
first_there a ps t p None u e f k = absurd (none-some _ k)
first_there a ps t p (Some v) u e f k = rw (swap_there a t p v e) (f v k)

pub swaps_there : (a : Step) (places : List ℕ) (t u : List Step) → swaps t places ≡ Some u → swaps (a ∷ t) (map suc places) ≡ Some (a ∷ u)
unfolding swaps
swaps_there a [] t u e = ap (λ o. option_map (λ v. a ∷ v) o) e
swaps_there a (p ∷ ps) t u e = first_there a ps t p (swap_at t p) u refl (λ v f. swaps_there a ps v u f) e

pub swaps_here : (a b : Step) (rest : List Step) (places : List ℕ) → may_swap a b ≡ true → swaps (a ∷ b ∷ rest) (zero ∷ places) ≡ swaps (b ∷ a ∷ rest) places
unfolding swaps swap_at
swaps_here a b rest places e = rw e refl

first_append : (ps qs : List ℕ) (o : Option (List Step)) (u : List Step) → ((v : List Step) → swaps v ps ≡ Some u → swaps v (ps ++ qs) ≡ swaps u qs) → option_and_then (λ v. swaps v ps) o ≡ Some u → option_and_then (λ v. swaps v (ps ++ qs)) o ≡ swaps u qs
first_append ps qs None u f e = absurd (none-some _ e)
first_append ps qs (Some v) u f e = f v e

pub swaps_append : (ps qs : List ℕ) (t u : List Step) → swaps t ps ≡ Some u → swaps t (ps ++ qs) ≡ swaps u qs
unfolding swaps
swaps_append [] qs t u e = ap (λ v. swaps v qs) (same_Some _ _ e)
swaps_append (p ∷ ps) qs t u e = first_append ps qs (swap_at t p) u (λ v f. swaps_append ps qs v u f) e

passes : (r : ℕ → ℕ) (s x : Step) → (conflicts s x ≡ true → r s.inv < r x.inv) → r x.inv < r s.inv → may_swap s x ≡ true
unfolding may_swap
passes r s x ok less = and_from _ _ (ap Rattle.std.specs.Prelude.not (ne_eqb s.inv x.inv (λ e. absurd (omega (arith, less, ap r e))))) (ap Rattle.std.specs.Prelude.not (false_from_ne_true (conflicts s x) (λ e. omega (arith, ok e, less))))

count_cons : (p : Step → Bool) (x : Step) (t : List Step) → count p (x ∷ t) ≡ cond (p x) 1 0 + count p t
count_cons p x t = go (p x)
  where
    go : (b : Bool) → length (cond b (x ∷ filter p t) (filter p t)) ≡ cond b 1 0 + length (filter p t)
    go true = omega arith
    go false = omega arith

count_more : (p : Step → Bool) (x : Step) (t u : List Step) → count p t ≡ count p u → count p (x ∷ t) ≡ count p (x ∷ u)
count_more p x t u e = count_cons p x t ∙ ap (λ n. cond (p x) 1 0 + n) e ∙ sym (count_cons p x u)

count_swap : (p : Step → Bool) (x y : Step) (t : List Step) → count p (x ∷ y ∷ t) ≡ count p (y ∷ x ∷ t)
count_swap p x y t = omega (arith, count_cons p x (y ∷ t), count_cons p y t, count_cons p y (x ∷ t), count_cons p x t)

-- the steps of lower rank
abbrev pub lower : (ℕ → ℕ) → Step → Step → Bool
lower r s x = nat_lt (r x.inv) (r s.inv)

count_true : (p : Step → Bool) (x : Step) (t : List Step) → p x ≡ true → count p (x ∷ t) ≡ suc (count p t)
count_true p x t e = count_cons p x t ∙ rw e (omega arith)

count_none : (p : Step → Bool) (t : List Step) → Each (λ x. p x ≡ false) t → count p t ≡ 0
count_none p [] h = refl
count_none p (x ∷ t) h = rw h.0 (count_none p t h.1)

length_suc : (ps : List ℕ) → length (map suc ps) ≡ length ps
length_suc [] = refl
length_suc (p ∷ ps) = ap suc (length_suc ps)

-- a step moves to the right past those of lower rank
sink : (r : ℕ → ℕ) (s : Step) (u : List Step) → Sorted r u → Each (λ x. conflicts s x ≡ true → r s.inv < r x.inv) u → SortedBy r (s ∷ u) (count (lower r s) u)
unfolding swaps
sink r s [] sorted ok = record { places = []; result = s ∷ []; swaps_to_result = refl; sorted = (tt, tt); among = λ x i. i; counts = λ p. refl; long = refl }
sink r s (x ∷ xs) sorted ok = elim (cases_lt (r x.inv) (r s.inv)) [
  | inl less ↦
      let deep = sink r s xs sorted.1 ok.1 in
      record {
        places = zero ∷ map suc deep.places;
        result = x ∷ deep.result;
        swaps_to_result = swaps_here s x xs (map suc deep.places) (passes r s x ok.0 less) ∙ swaps_there x deep.places (s ∷ xs) deep.result deep.swaps_to_result;
        sorted = (Each_from _ deep.result (λ y i. elim (deep.among y i) [ inl e ↦ omega (arith, less, ap (λ (z : Step). r z.inv) e) | inr k ↦ Each_at _ xs y sorted.0 k ]), deep.sorted);
        among = λ y i. elim i [ inl e ↦ inr (inl e) | inr k ↦ elim (deep.among y k) [ inl e ↦ inl e | inr l ↦ inr (inr l) ] ];
        counts = λ p. count_more p x deep.result (s ∷ xs) (deep.counts p) ∙ count_swap p x s xs;
        long = ap suc (length_suc deep.places ∙ deep.long) ∙ sym (count_true (lower r s) x xs (lt-ltb (r x.inv) (r s.inv) less));
      }
  | inr more ↦ record {
    places = [];
    result = s ∷ x ∷ xs;
    swaps_to_result = refl;
    sorted = ((more, Each_weaker _ _ xs (λ y h. omega (arith, h, more)) sorted.0), sorted);
    among = λ y i. i;
    counts = λ p. refl;
    long = sym (count_none (lower r s) (x ∷ xs) (le-ltb (r x.inv) (r s.inv) more, Each_weaker _ _ xs (λ y h. le-ltb (r y.inv) (r s.inv) (omega (arith, h, more))) sorted.0));
  }
]

pub sort : (r : ℕ → ℕ) (t : List Step) → Keeps r t → SortedBy r t (inversion_count r t)
unfolding swaps inversion_count
sort r [] keeps = record { places = []; result = []; swaps_to_result = refl; sorted = tt; among = λ x i. i; counts = λ p. refl; long = refl }
sort r (s ∷ later) keeps =
    let first = sort r later keeps.1 in
    let second = sink r s first.result first.sorted (Each_from _ first.result (λ x i. Each_at _ later x keeps.0 (first.among x i))) in
    record {
      places = map suc first.places ++ second.places;
      result = second.result;
      swaps_to_result = swaps_append (map suc first.places) second.places (s ∷ later) (s ∷ first.result) (swaps_there s first.places later first.result first.swaps_to_result) ∙ second.swaps_to_result;
      sorted = second.sorted;
      among = λ x i. elim (second.among x i) [ inl e ↦ inl e | inr k ↦ inr (first.among x k) ];
      counts = λ p. second.counts p ∙ count_more p s first.result later (first.counts p);
      long = omega (arith, length-append (map suc first.places) second.places, length_suc first.places, first.long, second.long, first.counts (lower r s));
    }

pub sorted_at : (r : ℕ → ℕ) (v : List Step) (i j : ℕ) (d : Step) → Sorted r v → i ≤ j → j < length v → r (get_or v i d).inv ≤ r (get_or v j d).inv
sorted_at r [] i j d s h k = absurd (omega arith)
sorted_at r (x ∷ xs) zero zero d s h k = omega arith
sorted_at r (x ∷ xs) zero (suc j) d s h k = Each_at (λ u. r x.inv ≤ r u.inv) xs (get_or xs j d) s.0 (In_get xs j d (omega arith))
sorted_at r (x ∷ xs) (suc i) zero d s h k = absurd (omega arith)
sorted_at r (x ∷ xs) (suc i) (suc j) d s h k = sorted_at r xs i j d s.1 (omega arith) (omega arith)

-- the invocation at a place is that of the step there
pub inv_read : (v : List Step) (i : ℕ) (d : Step) → i < length v → inv_at v i ≡ (get_or v i d).inv
inv_read v i d h = get_or-map (λ (s : Step). s.inv) v i d 0 h

together_at : (r : ℕ → ℕ) (v : List Step) (d : Step) → ((x y : Step) → In x v → In y v → r x.inv ≡ r y.inv → x.inv ≡ y.inv) → Sorted r v →
    (i j k : ℕ) → i < j → j < k → k < length v → inv_at v i ≡ inv_at v k → inv_at v j ≡ inv_at v i
together_at r v d apart sorted i j k a b c e =
    let low = sorted_at r v i j d sorted (omega arith) (omega arith) in
    let high = sorted_at r v j k d sorted (omega arith) c in
    let at_i = inv_read v i d (omega arith) in
    let at_j = inv_read v j d (omega arith) in
    let same : r (get_or v i d).inv ≡ r (get_or v k d).inv = ap r (sym at_i ∙ e ∙ inv_read v k d c) in
    at_j ∙ apart (get_or v j d) (get_or v i d) (In_get v j d (omega arith)) (In_get v i d (omega arith)) (omega (arith, low, high, same)) ∙ sym at_i

pub together_from : (r : ℕ → ℕ) (v : List Step) → ((x y : Step) → In x v → In y v → r x.inv ≡ r y.inv → x.inv ≡ y.inv) → Sorted r v → IsTogether v
together_from r [] apart sorted = record { between = λ i j k a b c. absurd (omega (arith, c)) }
together_from r (x ∷ xs) apart sorted = record { between = together_at r (x ∷ xs) x apart sorted }

pub swaps_into_order : SwapsIntoOrder
swaps_into_order t r keeps =
    let s = sort r t (Keeps_from r t keeps) in
    (s.places, s.result, record { swaps_to_result = s.swaps_to_result; in_order = λ i j d a b. sorted_at r s.result i j d s.sorted a b }, s.long)
