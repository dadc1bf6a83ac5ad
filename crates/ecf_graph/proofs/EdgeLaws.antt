-- A pair found in a rising list of pairs, or put in at its place.
use Rattle.std.proofs.Common.{◌≡◌, ℕ, ◌+◌, ◌-◌, ◌<◌, ◌≤◌, Bool, true, false, cond, ◌&&◌, ◌||◌, ◌==◌, List, ◌∷◌, length, take, drop, get_or, ◌⊎◌, inl, inr, refl, sym, ap, ◌∙◌, subst, arith}
use Rattle.std.specs.Prelude.{All, AllPairs}
use Rattle.std.specs.List.{insert, list_any}
use Rattle.std.specs.Cmp.{IsTotalOrder}
use Rattle.std.specs.Ordering.{nat_cmp, ordering_then, ordering_reverse, ordering_index, MatchOrdering}
use Rattle.std.specs.declared.cmp.Ordering.{Ordering}
use Rattle.std.specs.declared.cmp.Ordering.TheVariants.{Less, Equal, Greater}
use Rattle.std.proofs.lemmas.Bool.{cases_eq, cases_lt, and_parts, and_from, eqb-true, eq-eqb, or_right}
use Rattle.std.proofs.lemmas.Cmp.{nat_cmp_total, on_total, then_total, ranked}
use Rattle.std.proofs.lemmas.List.{take-append-drop}
use Rattle.std.proofs.lemmas.List.Edits.{length-insert, get_or-insert_below, get_or-insert_at, get_or-insert_above}
use Rattle.std.proofs.lemmas.List.Folds.{list_any-append}
use Rattle.ecf_graph.specs.Edges.{pair_cmp, PairsRise, PairsAreOfTwo, is_of_two}
use Rattle.ecf_graph.specs.Pairs.{joins}
use Rattle.ecf_graph.specs.Paths.{with_pair}
use Rattle.ecf_graph.proofs.CheckLaws.{joins_here}

pairs_total : IsTotalOrder pair_cmp
pairs_total = then_total (on_total (λ (p : ℕ × ℕ). p.0) nat_cmp_total) (on_total (λ (p : ℕ × ℕ). p.1) nat_cmp_total)

-- a lower pair compares no higher
index_rises : (a b x : ℕ × ℕ) → pair_cmp a b ≡ Less → ordering_index (pair_cmp a x) ≤ ordering_index (pair_cmp b x)
index_rises a b x e = go (pair_cmp a x) refl
  where
    turned : pair_cmp x b ≡ Less → pair_cmp b x ≡ Greater
    turned h = pairs_total.antisymm b x ∙ ap ordering_reverse h

    go : (o : Ordering) → pair_cmp a x ≡ o → ordering_index (pair_cmp a x) ≤ ordering_index (pair_cmp b x)
    go Less h = rw h (omega arith)
    go Equal h = rw (h, turned (sym (pairs_total.congr a x b h) ∙ e)) (omega arith)
    go Greater h = rw (h, turned (pairs_total.trans x a b (pairs_total.antisymm x a ∙ ap ordering_reverse h) e)) (omega arith)

pub indexes_rise : (xs : List (ℕ × ℕ)) (x : ℕ × ℕ) → PairsRise xs → (i j : ℕ) (d : ℕ × ℕ) → i ≤ j → j < length xs → ordering_index (pair_cmp (get_or xs i d) x) ≤ ordering_index (pair_cmp (get_or xs j d) x)
indexes_rise xs x rise i j d le inside = elim (cases_lt i j) [
  | inl l ↦ index_rises (get_or xs i d) (get_or xs j d) x (rise i j d l inside)
  | inr g ↦ (let e : i ≡ j = omega (arith, le, g) in subst (λ k. ordering_index (pair_cmp (get_or xs i d) x) ≤ ordering_index (pair_cmp (get_or xs k d) x)) e (omega arith))
]

-- an element of a list with one more in it is that one, or stood there
placed : {X : Type 0} (xs : List X) (k : ℕ) (y : X) (i : ℕ) (d : X) → k ≤ length xs →
    ((i < k) × (get_or (insert xs k y) i d ≡ get_or xs i d)) ⊎ (((i ≡ k) × (get_or (insert xs k y) i d ≡ y)) ⊎ ((k < i) × (get_or (insert xs k y) i d ≡ get_or xs (i - 1) d)))
placed xs k y i d h = elim (cases_lt i k) [
  | inl l ↦ inl (l, get_or-insert_below xs k y d i l h)
  | inr g ↦ elim (cases_eq i k) [
    | inl e ↦ inr (inl (e, ap (λ n. get_or (insert xs k y) n d) e ∙ get_or-insert_at xs k y d h))
    | inr n ↦ (let back : i ≡ i - 1 + 1 = omega (arith, g, n) in inr (inr (omega (arith, g, n), ap (λ m. get_or (insert xs k y) m d) back ∙ get_or-insert_above xs k y d (i - 1) (omega (arith, g, n)) h)))
  ]
]

all_insert : {X : Type 0} (P : X → Type 0) (xs : List X) (k : ℕ) (y : X) → k ≤ length xs → All P xs → P y → All P (insert xs k y)
all_insert P xs k y h all one i d inside =
    let long = length-insert xs k y h in
    elim (placed xs k y i d h) [
      | inl a ↦ subst P (sym a.1) (all i d (omega (arith, a.0, h)))
      | inr r ↦ elim r [
        | inl b ↦ subst P (sym b.1) one
        | inr c ↦ subst P (sym c.1) (all (i - 1) d (omega (arith, c.0, inside, long)))
      ]
    ]

pairs_insert : {X : Type 0} (R : X → X → Type 0) (xs : List X) (k : ℕ) (y : X) → k ≤ length xs → AllPairs R xs → ((i : ℕ) (d : X) → i < k → R (get_or xs i d) y) → ((i : ℕ) (d : X) → k ≤ i → i < length xs → R y (get_or xs i d)) → AllPairs R (insert xs k y)
pairs_insert R xs k y h all below above i j d less inside =
    let long = length-insert xs k y h in
    elim (placed xs k y i d h) [
      | inl a ↦ elim (placed xs k y j d h) [
        | inl b ↦ rw (a.1, b.1) (all i j d less (omega (arith, b.0, h)))
        | inr r ↦ elim r [
          | inl b ↦ rw (a.1, b.1) (below i d a.0)
          | inr b ↦ rw (a.1, b.1) (all i (j - 1) d (omega (arith, a.0, b.0)) (omega (arith, b.0, inside, long)))
        ]
      ]
      | inr q ↦ elim q [
        | inl a ↦ elim (placed xs k y j d h) [
          | inl b ↦ absurd (omega (arith, a.0, b.0, less))
          | inr r ↦ elim r [
            | inl b ↦ absurd (omega (arith, a.0, b.0, less))
            | inr b ↦ rw (a.1, b.1) (above (j - 1) d (omega (arith, b.0)) (omega (arith, b.0, inside, long)))
          ]
        ]
        | inr a ↦ elim (placed xs k y j d h) [
          | inl b ↦ absurd (omega (arith, a.0, b.0, less))
          | inr r ↦ elim r [
            | inl b ↦ absurd (omega (arith, a.0, b.0, less))
            | inr b ↦ rw (a.1, b.1) (all (i - 1) (j - 1) d (omega (arith, a.0, b.0, less)) (omega (arith, b.0, inside, long)))
          ]
        ]
      ]
    ]

-- the lists before and after a try to put a pair in at its place
pub rise_after : (done : Bool) (old new : List (ℕ × ℕ)) (k : ℕ) (p : ℕ × ℕ) → new ≡ cond done (insert old k p) old → k ≤ length old → PairsRise old →
    ((i : ℕ) (d : ℕ × ℕ) → 0 ≤ i → i < k → pair_cmp (get_or old i d) p ≡ Less) → ((i : ℕ) (d : ℕ × ℕ) → k ≤ i → i < length old → pair_cmp (get_or old i d) p ≡ Greater) → PairsRise new
rise_after true old new k p e h rise below above = subst PairsRise (sym e) (pairs_insert (λ x y. pair_cmp x y ≡ Less) old k p h rise (λ i d l. below i d (omega arith) l) (λ i d g l. pairs_total.antisymm p (get_or old i d) ∙ ap ordering_reverse (above i d g l)))
rise_after false old new k p e h rise below above = subst PairsRise (sym e) rise

pub of_two_after : (done : Bool) (members : List ℕ) (old new : List (ℕ × ℕ)) (k : ℕ) (p : ℕ × ℕ) → new ≡ cond done (insert old k p) old → k ≤ length old → PairsAreOfTwo members old → is_of_two members p ≡ true → PairsAreOfTwo members new
of_two_after true members old new k p e h all one = subst (PairsAreOfTwo members) (sym e) (all_insert (λ x. is_of_two members x ≡ true) old k p h all one)
of_two_after false members old new k p e h all one = subst (PairsAreOfTwo members) (sym e) all

or_turned : (x y z : Bool) → (x || (y || z)) ≡ ((x || z) || y)
or_turned true y z = refl
or_turned false true true = refl
or_turned false true false = refl
or_turned false false true = refl
or_turned false false false = refl

-- what the list with a pair more joins
pub joins_insert : (pairs : List (ℕ × ℕ)) (k a b i j : ℕ) → joins (insert pairs k (a, b)) i j ≡ with_pair (joins pairs) a b i j
unfolding joins with_pair
joins_insert pairs k a b i j =
    let test = λ (p : ℕ × ℕ). (i == p.0) && (j == p.1) in
    let parts : list_any test pairs ≡ (list_any test (take k pairs) || list_any test (drop k pairs)) = ap (list_any test) (sym (take-append-drop k pairs)) ∙ list_any-append test (take k pairs) (drop k pairs) in
    list_any-append test (take k pairs) ((a, b) ∷ drop k pairs) ∙
    (or_turned (list_any test (take k pairs)) ((i == a) && (j == b)) (list_any test (drop k pairs)) ∙ ap (λ x. x || ((i == a) && (j == b))) (sym parts))

or_known : (x y : Bool) → (y ≡ true → x ≡ true) → x ≡ (x || y)
or_known true y f = refl
or_known false true f = f refl
or_known false false f = refl

-- a pair that is there adds nothing
joins_known : (pairs : List (ℕ × ℕ)) (a b : ℕ) → joins pairs a b ≡ true → (i j : ℕ) → joins pairs i j ≡ with_pair (joins pairs) a b i j
unfolding with_pair
joins_known pairs a b e i j = or_known (joins pairs i j) ((i == a) && (j == b)) (λ h. let p = and_parts _ _ h in rw (eqb-true i a p.0, eqb-true j b p.1) e)

apart : (n : ℕ) → n ≡ 1 → (n ≡ 1 → ⊥) → ⊥
apart n e f = f e

-- pairs that compare as equal are one
equal_parts : (o p : Ordering) → ordering_then o p ≡ Equal → (o ≡ Equal) × (p ≡ Equal)
equal_parts Less p e = absurd (apart 0 (ap ordering_index e) (omega arith))
equal_parts Equal p e = (refl, e)
equal_parts Greater p e = absurd (apart 2 (ap ordering_index e) (omega arith))

equal_numbers : (x y : ℕ) → nat_cmp x y ≡ Equal → x ≡ y
equal_numbers x y e = subst (λ o. MatchOrdering o (x < y) (x ≡ y) (y < x)) e (ranked x y (nat_cmp x y) refl)

there : (pairs : List (ℕ × ℕ)) (k a b : ℕ) → k < length pairs → ((d : ℕ × ℕ) → pair_cmp (get_or pairs k d) (a, b) ≡ Equal) → joins pairs a b ≡ true
unfolding joins
there pairs k a b inside found =
    let test = λ (p : ℕ × ℕ). (a == p.0) && (b == p.1) in
    let p = get_or pairs k (0, 0) in
    let e = equal_parts (nat_cmp p.0 a) (nat_cmp p.1 b) (found (0, 0)) in
    let here : joins (drop k pairs) a b ≡ true = joins_here pairs k a b (0, 0) inside (and_from _ _ (eq-eqb a p.0 (sym (equal_numbers p.0 a e.0))) (eq-eqb b p.1 (sym (equal_numbers p.1 b e.1)))) in
    ap (list_any test) (sym (take-append-drop k pairs)) ∙ (list_any-append test (take k pairs) (drop k pairs) ∙ or_right _ _ here)

pub joins_found : (pairs : List (ℕ × ℕ)) (k a b : ℕ) → k < length pairs → ((d : ℕ × ℕ) → pair_cmp (get_or pairs k d) (a, b) ≡ Equal) → (i j : ℕ) → joins pairs i j ≡ with_pair (joins pairs) a b i j
joins_found pairs k a b inside found = joins_known pairs a b (there pairs k a b inside found)
