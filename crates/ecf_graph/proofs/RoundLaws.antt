-- The rounds of a placing.
use Rattle.std.proofs.Common.{◌≡◌, ℕ, zero, suc, ◌+◌, ◌<◌, ◌≤◌, Bool, true, false, not, ◌&&◌, ◌||◌, ◌==◌, List, [], ◌∷◌, ◌++◌, find, drop, length, get_or, Some, None, ◌⊎◌, refl, sym, ap, ◌∙◌, subst, inl, inr, append_assoc, add-one, drop-cons}
use Rattle.std.specs.List.{list_any}
use Rattle.std.proofs.lemmas.Bool.{cases_Bool, cases_eq, both_ways, eq-eqb, eqb-true, ne_eqb, or_cases, or_left, or_right}
use Rattle.std.proofs.lemmas.List.{append-nil, drop_all}
use Rattle.ecf_graph.specs.Placement.{Placement, without}
use Rattle.ecf_graph.specs.Rows.{is_member, those_in}
use Rattle.ecf_graph.specs.Placement.{waits, next_of, placement_from, placement_of}
use Rattle.ecf_graph.specs.Ordered.{IsOrdered}
use Rattle.ecf_graph.specs.declared.placement.Ordered.{Ordered}
use Rattle.ecf_graph.specs.declared.placement.Ordered.TheVariants as ordered
use Rattle.ecf_graph.specs.PlacementLemmas.{placement_none, placement_some}
use Rattle.ecf_graph.specs.Placement.{PlacesNext}

-- between a test of some of a list and one of them
any_at : (q : ℕ → Bool) (i : ℕ) (list : List ℕ) → list_any (λ x. x == i) list ≡ true → q i ≡ true → list_any q list ≡ true
any_at q i [] e f = absurd (both_ways false refl e)
any_at q i (x ∷ xs) e f = elim (or_cases _ _ e) [
  | inl same ↦ or_left _ _ (subst (λ y. q y ≡ true) (sym (eqb-true x i same)) f)
  | inr later ↦ or_right _ _ (any_at q i xs later f)
]

any_one : (q : ℕ → Bool) (list : List ℕ) → list_any q list ≡ true → (i : ℕ) × (list_any (λ x. x == i) list ≡ true) × (q i ≡ true)
any_one q [] e = absurd (both_ways false refl e)
any_one q (x ∷ xs) e = elim (or_cases _ _ e) [
  | inl here ↦ (x, or_left _ _ (eq-eqb x x refl), here)
  | inr later ↦ (let r = any_one q xs later in (r.0, or_right _ _ r.1, r.2))
]

-- whether one waits, by a set of the unplaced
pub waits_yes : (r : ℕ → ℕ → Bool) (list : List ℕ) (p : ℕ → Bool) (j : ℕ) → ((i : ℕ) → p i ≡ list_any (λ x. x == i) list) → (i : ℕ) × (p i ≡ true) × (r i j ≡ true) → waits r list j ≡ true
unfolding waits
waits_yes r list p j e (i, h, q) = any_at (λ x. r x j) i list (sym (e i) ∙ h) q

pub waits_no : (r : ℕ → ℕ → Bool) (list : List ℕ) (p : ℕ → Bool) (j : ℕ) → ((i : ℕ) → p i ≡ list_any (λ x. x == i) list) → ((i : ℕ) → p i ≡ true → r i j ≡ true → ⊥) → waits r list j ≡ false
unfolding waits
waits_no r list p j e n = elim (cases_Bool (list_any (λ x. r x j) list)) [
  | inr f ↦ f
  | inl t ↦ (let w = any_one (λ x. r x j) list t in absurd (n w.0 (e w.0 ∙ w.1) w.2))
]

and_none : (q n : Bool) → n ≡ false → false ≡ (q && n)
and_none true n e = sym e
and_none false n e = refl

-- a set without one number, and the list without it
pub any_without : (j : ℕ) (xs : List ℕ) (i : ℕ) → list_any (λ x. x == i) (without j xs) ≡ (list_any (λ x. x == i) xs && not (i == j))
unfolding without
any_without j [] i = refl
any_without j (x ∷ xs) i = go (cases_eq x j) (cases_eq x i) (any_without j xs i)
  where
    go : (x ≡ j) ⊎ (x ≡ j → ⊥) → (x ≡ i) ⊎ (x ≡ i → ⊥) → list_any (λ y. y == i) (without j xs) ≡ (list_any (λ y. y == i) xs && not (i == j)) → list_any (λ y. y == i) (without j (x ∷ xs)) ≡ ((x == i || list_any (λ y. y == i) xs) && not (i == j))
    go (inl a) (inl b) deep = rw (eq-eqb x j a, eq-eqb x i b, deep, eq-eqb i j (sym b ∙ a)) (sym (and_none (list_any (λ y. y == i) xs) false refl))
    go (inl a) (inr b) deep = rw (eq-eqb x j a, ne_eqb x i b) deep
    go (inr a) (inl b) deep = rw (ne_eqb x j a, eq-eqb x i b, ne_eqb i j (λ f. a (b ∙ f))) refl
    go (inr a) (inr b) deep = rw (ne_eqb x j a, ne_eqb x i b) deep

-- those of a list that are in a set, a place at a time
pub in_here : (left xs : List ℕ) (k x : ℕ) → k < length xs → x ≡ get_or xs k 0 → is_member left x ≡ true → those_in left (drop k xs) ≡ x ∷ those_in left (drop (k + 1) xs)
unfolding those_in
in_here left xs k x h e t = rw (drop-cons xs k 0 h, sym e, t, add-one k) refl

pub in_there : (left xs : List ℕ) (k x : ℕ) → k < length xs → x ≡ get_or xs k 0 → is_member left x ≡ false → those_in left (drop k xs) ≡ those_in left (drop (k + 1) xs)
unfolding those_in
in_there left xs k x h e t = rw (drop-cons xs k 0 h, sym e, t, add-one k) refl

pub in_end : (left xs : List ℕ) (k : ℕ) → length xs ≤ k → those_in left (drop k xs) ≡ []
unfolding those_in
in_end left xs k h = rw (drop_all k xs h) refl

-- a set of all of a list
pub in_all : (left xs : List ℕ) → ((i : ℕ) → list_any (λ x. x == i) xs ≡ true → is_member left i ≡ true) → those_in left xs ≡ xs
unfolding those_in
in_all left [] h = refl
in_all left (x ∷ xs) h = rw (h x (or_left _ _ (eq-eqb x x refl))) (ap (λ l. x ∷ l) (in_all left xs (λ i e. h i (or_right _ _ e))))

-- a set without a number
pub in_without : (left left' : List ℕ) (j : ℕ) → ((k : ℕ) → is_member left' k ≡ (is_member left k && not (k == j))) → (xs : List ℕ) → those_in left' xs ≡ without j (those_in left xs)
unfolding those_in without
in_without left left' j e [] = refl
in_without left left' j e (x ∷ xs) = elim (cases_Bool (is_member left x)) [
  | inl t ↦ elim (cases_eq x j) [
    | inl same ↦ rw (e x, t, eq-eqb x j same) (in_without left left' j e xs)
    | inr apart ↦ rw (e x, t, ne_eqb x j apart) (ap (λ l. x ∷ l) (in_without left left' j e xs))
  ]
  | inr f ↦ rw (e x, f) (in_without left left' j e xs)
]

find_first : (p : ℕ → Bool) (x : ℕ) (xs : List ℕ) → p x ≡ true → find p (x ∷ xs) ≡ Some x
find_first p x xs t = rw t refl

find_later : (p : ℕ → Bool) (x : ℕ) (xs : List ℕ) → p x ≡ false → find p (x ∷ xs) ≡ find p xs
find_later p x xs f = rw f refl

-- looking through those that are left
pub left_here : (r : ℕ → ℕ → Bool) (left members list : List ℕ) (k x : ℕ) → k < length members → x ≡ get_or members k 0 → ((i : ℕ) → is_member left i ≡ list_any (λ y. y == i) list) →
    (is_member left x ≡ true) × ((i : ℕ) → is_member left i ≡ true → r i x ≡ true → ⊥) →
    find (λ j. not (waits r list j)) (those_in left (drop k members)) ≡ Some x
left_here r left members list k x h e set is_so =
    ap (find (λ j. not (waits r list j))) (in_here left members k x h e is_so.0) ∙ find_first (λ j. not (waits r list j)) x (those_in left (drop (k + 1) members)) (ap not (waits_no r list (is_member left) x set is_so.1))

pub left_there : (r : ℕ → ℕ → Bool) (left members list : List ℕ) (k x : ℕ) → k < length members → x ≡ get_or members k 0 → ((i : ℕ) → is_member left i ≡ list_any (λ y. y == i) list) →
    (is_member left x ≡ true → (i : ℕ) × (is_member left i ≡ true) × (r i x ≡ true)) →
    find (λ j. not (waits r list j)) (those_in left (drop k members)) ≡ find (λ j. not (waits r list j)) (those_in left (drop (k + 1) members))
left_there r left members list k x h e set not_so = elim (cases_Bool (is_member left x)) [
  | inl t ↦ ap (find (λ j. not (waits r list j))) (in_here left members k x h e t) ∙ find_later (λ j. not (waits r list j)) x (those_in left (drop (k + 1) members)) (ap not (waits_yes r list (is_member left) x set (not_so t)))
  | inr f ↦ ap (find (λ j. not (waits r list j))) (in_there left members k x h e f)
]

-- a number that is left was put on the list of those left
pub put_on : (list later : List ℕ) (x : ℕ) (all : List ℕ) → list ++ x ∷ later ≡ all → (list ++ x ∷ []) ++ later ≡ all
put_on list later x all e = append_assoc list (x ∷ []) later ∙ e

-- rounds
pub round_none : (r : ℕ → ℕ → Bool) (n : ℕ) (u : List ℕ) → next_of r u ≡ None → placement_from r n u ≡ record { order = []; rest = u }
unfolding placement_from
round_none r zero u e = refl
round_none r (suc n) u e = placement_none r n u e

pub round_zero : (r : ℕ → ℕ → Bool) (u : List ℕ) → placement_from r 0 u ≡ record { order = []; rest = u }
unfolding placement_from
round_zero r u = refl

-- what one round leaves to the later ones
pub record Left (r : ℕ → ℕ → Bool) (all : Placement) (n : ℕ) (placed rest : List ℕ) : Type 0 where
  pub placed_is : placed ++ (placement_from r n rest).order ≡ all.order
  pub rest_is : (placement_from r n rest).rest ≡ all.rest

pub Left-round : (r : ℕ → ℕ → Bool) (all : Placement) (n m : ℕ) (more : Bool) (rest placed rest' placed' : List ℕ) → n ≡ suc m → PlacesNext r more rest placed rest' placed' → Left r all n placed rest → Left r all m placed' rest'
Left-round r all n m true rest placed rest' placed' e (j, f, g, h) l =
    let whole : placement_from r n rest ≡ record { order = j ∷ (placement_from r m (without j rest)).order; rest = (placement_from r m (without j rest)).rest } = ap (λ x. placement_from r x rest) e ∙ placement_some r m rest j f in
    record {
      placed_is = rw (h, g) (append_assoc placed (j ∷ []) _ ∙ (ap (λ (p : Placement). placed ++ p.order) (sym whole) ∙ l.placed_is));
      rest_is = rw g (ap (λ (p : Placement). p.rest) (sym whole) ∙ l.rest_is);
    }
Left-round r all n m false rest placed rest' placed' e (f, g, h) l =
    let same : placement_from r m rest ≡ placement_from r n rest = round_none r m rest f ∙ sym (round_none r n rest f) in
    record {
      placed_is = rw (h, g, same) l.placed_is;
      rest_is = rw (g, same) l.rest_is;
    }

pub Left-stuck : (r : ℕ → ℕ → Bool) (all : Placement) (n m : ℕ) (rest placed : List ℕ) → next_of r rest ≡ None → Left r all n placed rest → Left r all m placed rest
Left-stuck r all n m rest placed f l =
    let same : placement_from r m rest ≡ placement_from r n rest = round_none r m rest f ∙ sym (round_none r n rest f) in
    record { placed_is = rw same l.placed_is; rest_is = rw same l.rest_is }

pub Left-first : (r : ℕ → ℕ → Bool) (ms placed rest : List ℕ) → placed ≡ [] → rest ≡ ms → Left r (placement_of r ms) (length ms) placed rest
unfolding placement_of
Left-first r ms placed rest a b = record { placed_is = rw (a, b) refl; rest_is = rw b refl }

pub Left-end : (r : ℕ → ℕ → Bool) (all : Placement) (n : ℕ) (placed rest : List ℕ) → n ≡ 0 → Left r all n placed rest → (placed ≡ all.order) × (rest ≡ all.rest)
Left-end r all n placed rest e l =
    let same : placement_from r n rest ≡ record { order = []; rest = rest } = ap (λ x. placement_from r x rest) e ∙ round_zero r rest in
    (sym (append-nil placed) ∙ (ap (λ (p : Placement). placed ++ p.order) (sym same) ∙ l.placed_is), ap (λ (p : Placement). p.rest) (sym same) ∙ l.rest_is)

-- where nothing was placed, nothing more can be
pub none_next : (r : ℕ → ℕ → Bool) (more : Bool) (rest placed rest' placed' : List ℕ) → more ≡ false → PlacesNext r more rest placed rest' placed' → next_of r rest' ≡ None
none_next r true rest placed rest' placed' e p = absurd (both_ways true e refl)
none_next r false rest placed rest' placed' e (f, g, h) = ap (next_of r) g ∙ f

-- an answer for equal placements
pub ordered_same : (o : Ordered) (p q : Placement) → p.order ≡ q.order → p.rest ≡ q.rest → IsOrdered o p → IsOrdered o q
ordered_same (ordered.All order) p q e f h = (h.0 ∙ e, sym f ∙ h.1)
ordered_same (ordered.Stuck placed rest) p q e f h = (h.0 ∙ e, h.1 ∙ f, λ g. h.2 (f ∙ g))
