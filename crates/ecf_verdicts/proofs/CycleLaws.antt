-- The named cycle is a cycle, and its walk never ends for want of moves.
use Rattle.std.proofs.Common.{◌≡◌, ℕ, suc, zero, ◌+◌, ◌-◌, ◌<◌, ◌≤◌, ◌≢◌, min, true, false, ◌==◌, List, [], ◌∷◌, ◌++◌, length, get_or, find, append_assoc, append-nil, add-one, length-append, Some, ◌⊎◌, inl, inr, refl, sym, ap, ◌∙◌, subst, arith}
use Rattle.std.proofs.lemmas.Bool.{both_ways, cases_Bool, cases_eq, eqb-true, eq-eqb, ne_eqb}
use Rattle.std.proofs.lemmas.List.{get_or_append_left, get_or_at}
use Rattle.ecf_lang.specs.declared.run.Step.{Step}
use Rattle.ecf_verdicts.specs.Before.{before}
use Rattle.ecf_verdicts.specs.Cycles.{least_before, is_among, up_to, from, until, minimum, rotation_to_minimum, walk, cycle_in, cycle}
use Rattle.ecf_verdicts.specs.Laws.{IsCycle, CycleNamed, MovesSuffice}
use Rattle.ecf_verdicts.specs.Placing.{without, placing}
use Rattle.ecf_verdicts.specs.BeforeLemmas.{before_self}
use Rattle.ecf_verdicts.proofs.FreeLaws.{free_from_placed}
use Rattle.ecf_verdicts.specs.ListLemmas.{Each, In, Pairs, Each_from, Each_at, Each_weaker, Pairs_at, All_from_Each, Has_from_any, any_from_Has, Has_weaker, find_some, find_none, option_cases}
use Rattle.ecf_verdicts.proofs.MemberLaws.{length-without}
use Rattle.ecf_verdicts.specs.PlacingLemmas.{In_without_from}
use Rattle.ecf_verdicts.proofs.PlacingLaws.{Stuck, rest_stuck}

-- each is before the next
abbrev Chain : List Step → List ℕ → Type 0
Chain t [] = Unit {0}
Chain t (x ∷ []) = Unit {0}
Chain t (x ∷ y ∷ ys) = (before t x y ≡ true) × Chain t (y ∷ ys)

-- and the last before the first
abbrev Around : List Step → List ℕ → Type 0
Around t [] = Unit {0}
Around t (x ∷ xs) = Chain t (x ∷ (xs ++ x ∷ []))

abbrev pub Distinct : List ℕ → Type 0
Distinct xs = Pairs (λ i j. i ≢ j) xs

-- distinct numbers of a list are no more than the list has
pub no_more : (xs ys : List ℕ) → Distinct xs → Each (λ x. In x ys) xs → length xs ≤ length ys
no_more [] ys d h = omega arith
no_more (x ∷ xs) ys d h =
    let deep = no_more xs (without x ys) d.1 (Each_from (λ z. In z (without x ys)) xs (λ z i. In_without_from x ys z (Each_at (λ w. In w ys) xs z h.1 i) (λ e. Each_at (λ j. x ≢ j) xs z d.0 i (sym e)))) in
    omega (arith, deep, length-without x ys h.0)

among_in : (i : ℕ) (xs : List ℕ) → is_among i xs ≡ true → In i xs
unfolding is_among
among_in i xs e = Has_weaker _ _ xs (λ x f. eqb-true i x f) (Has_from_any (λ j. i == j) xs e)

not_among : (i : ℕ) (xs : List ℕ) → is_among i xs ≡ false → In i xs → ⊥
unfolding is_among
not_among i xs e h = both_ways _ e (any_from_Has (λ j. i == j) xs (Has_weaker _ _ xs (λ x f. eq-eqb i x f) h))

-- the part up to a visited one
up_to_here : (i x : ℕ) (xs : List ℕ) → i ≡ x → up_to i (x ∷ xs) ≡ x ∷ []
unfolding up_to
up_to_here i x xs e = rw (eq-eqb i x e) refl

up_to_there : (i x : ℕ) (xs : List ℕ) → (i ≡ x → ⊥) → up_to i (x ∷ xs) ≡ x ∷ up_to i xs
unfolding up_to
up_to_there i x xs n = rw (ne_eqb i x n) refl

up_to_in : (i : ℕ) (xs : List ℕ) (y : ℕ) → In y (up_to i xs) → In y xs
unfolding up_to
up_to_in i [] y h = h
up_to_in i (x ∷ xs) y h = go (cases_eq i x) (up_to_in i xs y)
  where
    go : (i ≡ x) ⊎ (i ≡ x → ⊥) → (In y (up_to i xs) → In y xs) → In y (x ∷ xs)
    go (inl e) deep = elim (subst (λ l. In y l) (up_to_here i x xs e) h) [ inl f ↦ inl f | inr k ↦ absurd k ]
    go (inr n) deep = elim (subst (λ l. In y l) (up_to_there i x xs n) h) [ inl f ↦ inl f | inr k ↦ inr (deep k) ]

up_to_distinct : (i : ℕ) (xs : List ℕ) → Distinct xs → Distinct (up_to i xs)
unfolding up_to
up_to_distinct i [] d = tt
up_to_distinct i (x ∷ xs) d = go (cases_eq i x) (up_to_distinct i xs d.1)
  where
    go : (i ≡ x) ⊎ (i ≡ x → ⊥) → Distinct (up_to i xs) → Distinct (up_to i (x ∷ xs))
    go (inl e) deep = subst Distinct (sym (up_to_here i x xs e)) (tt, tt)
    go (inr n) deep = subst Distinct (sym (up_to_there i x xs n)) (Each_from (λ j. x ≢ j) (up_to i xs) (λ y h. Each_at (λ j. x ≢ j) xs y d.0 (up_to_in i xs y h)), deep)

-- the head of what is up to a visited one
up_to_head : (i y : ℕ) (ys : List ℕ) → (more : List ℕ) × (up_to i (y ∷ ys) ≡ y ∷ more)
up_to_head i y ys = elim (cases_eq i y) [ inl e ↦ ([], up_to_here i y ys e) | inr n ↦ (up_to i ys, up_to_there i y ys n) ]

chain_head : (t : List Step) (x y : ℕ) (more tail : List ℕ) (l : List ℕ) → l ≡ y ∷ more → before t x y ≡ true → Chain t (l ++ tail) → Chain t (x ∷ (l ++ tail))
chain_head t x y more tail l e b c = subst (λ m. Chain t (m ++ tail) → Chain t (x ∷ (m ++ tail))) (sym e) (λ d. (b, d)) c

up_to_chain : (t : List Step) (i z : ℕ) (xs : List ℕ) → Chain t xs → In i xs → before t i z ≡ true → Chain t (up_to i xs ++ z ∷ [])
unfolding up_to
up_to_chain t i z [] c h b = absurd h
up_to_chain t i z (x ∷ []) c (inl e) b = subst (λ l. Chain t (l ++ z ∷ [])) (sym (up_to_here i x [] e)) (subst (λ w. before t w z ≡ true) e b, tt)
up_to_chain t i z (x ∷ []) c (inr h) b = absurd h
up_to_chain t i z (x ∷ y ∷ ys) c h b = go (cases_eq i x) (λ k. up_to_chain t i z (y ∷ ys) c.1 k b)
  where
    go : (i ≡ x) ⊎ (i ≡ x → ⊥) → (In i (y ∷ ys) → Chain t (up_to i (y ∷ ys) ++ z ∷ [])) → Chain t (up_to i (x ∷ y ∷ ys) ++ z ∷ [])
    go (inl e) deep = subst (λ l. Chain t (l ++ z ∷ [])) (sym (up_to_here i x (y ∷ ys) e)) (subst (λ w. before t w z ≡ true) e b, tt)
    go (inr n) deep =
        let inside : In i (y ∷ ys) = elim h [ inl e ↦ absurd (n e) | inr k ↦ k ] in
        let head = up_to_head i y ys in
        subst (λ l. Chain t (l ++ z ∷ [])) (sym (up_to_there i x (y ∷ ys) n)) (chain_head t x y head.0 (z ∷ []) (up_to i (y ∷ ys)) head.1 c.0 (deep inside))

-- what the walk gives
record Walked (t : List Step) (c : List ℕ) : Type 0 where
  around : Around t c
  distinct : Distinct c
  several : 2 ≤ length c

closed : (t : List Step) (i present : ℕ) (earlier : List ℕ) → Chain t (present ∷ earlier) → Distinct (present ∷ earlier) → In i (present ∷ earlier) → before t i present ≡ true → Walked t (up_to i (present ∷ earlier))
closed t i present earlier chain d h b =
    let other : (i ≡ present → ⊥) = λ e. both_ways _ (before_self t present) (subst (λ w. before t w present ≡ true) e b) in
    let inside : In i earlier = elim h [ inl e ↦ absurd (other e) | inr k ↦ k ] in
    let is = up_to_there i present earlier other in
    record {
      around = subst (λ l. Around t l) (sym is) (subst (λ l. Chain t (l ++ present ∷ [])) is (up_to_chain t i present (present ∷ earlier) chain h b));
      distinct = up_to_distinct i (present ∷ earlier) d;
      several = subst (λ l. 2 ≤ length l) (sym is) (longer earlier inside);
    }
  where
    longer : (xs : List ℕ) → In i xs → 2 ≤ suc (length (up_to i xs))
    longer [] k = absurd k
    longer (x ∷ xs) k = let head = up_to_head i x xs in subst (λ l. 2 ≤ suc (length l)) (sym head.1) (omega arith)

walk_none : (t : List Step) (rest : List ℕ) (n present : ℕ) (earlier : List ℕ) (i : ℕ) → least_before t rest present ≡ Some i → is_among i (present ∷ earlier) ≡ false → walk t rest (suc n) present earlier ≡ walk t rest n i (present ∷ earlier)
unfolding walk
walk_none t rest n present earlier i e f = rw (e, walk, f, walk) refl

walk_ends : (t : List Step) (rest : List ℕ) (n present : ℕ) (earlier : List ℕ) (i : ℕ) → least_before t rest present ≡ Some i → is_among i (present ∷ earlier) ≡ true → walk t rest (suc n) present earlier ≡ up_to i (present ∷ earlier)
unfolding walk
walk_ends t rest n present earlier i e f = rw (e, walk, f, walk) refl

next_back : (t : List Step) (rest : List ℕ) → Stuck t rest → (present : ℕ) → In present rest → (i : ℕ) × (least_before t rest present ≡ Some i) × In i rest × (before t i present ≡ true)
unfolding least_before
next_back t rest s present h = elim (option_cases (find (λ i. before t i present) rest)) [
  | inl none ↦ (let r = s present h in absurd (both_ways _ (Each_at (λ i. before t i present ≡ false) rest r.0 (find_none (λ i. before t i present) rest none) r.1) r.2))
  | inr some ↦ (let r = find_some (λ i. before t i present) rest some.0 some.1 in (some.0, some.1, r.0, r.1))
]

walked : (t : List Step) (rest : List ℕ) → Stuck t rest → (n present : ℕ) (earlier : List ℕ) → Chain t (present ∷ earlier) → Distinct (present ∷ earlier) → Each (λ x. In x rest) (present ∷ earlier) → length rest ≤ n + length earlier → Walked t (walk t rest n present earlier)
walked t rest s zero present earlier chain d inside room = absurd (omega (arith, no_more (present ∷ earlier) rest d inside, room))
walked t rest s (suc n) present earlier chain d inside room = go (cases_Bool (is_among next.0 (present ∷ earlier))) (λ f. walked t rest s n next.0 (present ∷ earlier) (next.3, chain) (fresh f, d) (next.2, inside) (omega (arith, room)))
  where
    next : (i : ℕ) × (least_before t rest present ≡ Some i) × In i rest × (before t i present ≡ true)
    next = next_back t rest s present inside.0

    fresh : is_among next.0 (present ∷ earlier) ≡ false → Each (λ j. next.0 ≢ j) (present ∷ earlier)
    fresh f = Each_from (λ j. next.0 ≢ j) (present ∷ earlier) (λ j h e. not_among next.0 (present ∷ earlier) f (subst (λ w. In w (present ∷ earlier)) (sym e) h))

    go : (is_among next.0 (present ∷ earlier) ≡ true) ⊎ (is_among next.0 (present ∷ earlier) ≡ false) → (is_among next.0 (present ∷ earlier) ≡ false → Walked t (walk t rest n next.0 (present ∷ earlier))) → Walked t (walk t rest (suc n) present earlier)
    go (inl e) deep = subst (λ c. Walked t c) (sym (walk_ends t rest n present earlier next.0 next.1 e)) (closed t next.0 present earlier chain d (among_in next.0 (present ∷ earlier) e) next.3)
    go (inr f) deep = subst (λ c. Walked t c) (sym (walk_none t rest n present earlier next.0 next.1 f)) (deep f)

-- a cycle begun at another member
chain_split : (t : List Step) (xs : List ℕ) (y : ℕ) (ys : List ℕ) → Chain t (xs ++ y ∷ ys) → Chain t (xs ++ y ∷ []) × Chain t (y ∷ ys)
chain_split t [] y ys c = (tt, c)
chain_split t (x ∷ []) y ys c = ((c.0, tt), c.1)
chain_split t (x ∷ w ∷ ws) y ys c = let r = chain_split t (w ∷ ws) y ys c.1 in ((c.0, r.0), r.1)

chain_join : (t : List Step) (xs : List ℕ) (y : ℕ) (ys : List ℕ) → Chain t (xs ++ y ∷ []) → Chain t (y ∷ ys) → Chain t (xs ++ y ∷ ys)
chain_join t [] y ys c d = d
chain_join t (x ∷ []) y ys c d = (c.0, d)
chain_join t (x ∷ w ∷ ws) y ys c d = (c.0, chain_join t (w ∷ ws) y ys c.1 d)

around_turned : (t : List Step) (front : List ℕ) (m : ℕ) (back : List ℕ) → Around t (front ++ m ∷ back) → Around t (m ∷ (back ++ front))
around_turned t [] m back c = subst (λ l. Chain t (m ∷ (l ++ m ∷ []))) (sym (append-nil back)) c
around_turned t (a ∷ front) m back c =
    let whole : Chain t ((a ∷ front) ++ m ∷ (back ++ a ∷ [])) = subst (λ l. Chain t (a ∷ l)) (append_assoc front (m ∷ back) (a ∷ [])) c in
    let parts = chain_split t (a ∷ front) m (back ++ a ∷ []) whole in
    subst (λ l. Chain t (m ∷ l)) (sym (append_assoc back (a ∷ front) (m ∷ []))) (chain_join t (m ∷ back) a (front ++ m ∷ []) parts.1 parts.0)

Each_append : (P : ℕ → Type 0) (xs ys : List ℕ) → Each P xs → Each P ys → Each P (xs ++ ys)
Each_append P [] ys h k = k
Each_append P (x ∷ xs) ys h k = (h.0, Each_append P xs ys h.1 k)

Each_parts : (P : ℕ → Type 0) (xs ys : List ℕ) → Each P (xs ++ ys) → Each P xs × Each P ys
Each_parts P [] ys h = (tt, h)
Each_parts P (x ∷ xs) ys h = let r = Each_parts P xs ys h.1 in ((h.0, r.0), r.1)

distinct_parts : (xs ys : List ℕ) → Distinct (xs ++ ys) → Distinct xs × Distinct ys × Each (λ x. Each (λ y. x ≢ y) ys) xs
distinct_parts [] ys d = (tt, d, tt)
distinct_parts (x ∷ xs) ys d =
    let head = Each_parts (λ j. x ≢ j) xs ys d.0 in
    let deep = distinct_parts xs ys d.1 in
    ((head.0, deep.0), deep.1, (head.1, deep.2))

distinct_append : (xs ys : List ℕ) → Distinct xs → Distinct ys → Each (λ x. Each (λ y. x ≢ y) ys) xs → Distinct (xs ++ ys)
distinct_append [] ys d e h = e
distinct_append (x ∷ xs) ys d e h = (Each_append (λ j. x ≢ j) xs ys d.0 h.0, distinct_append xs ys d.1 e h.1)

distinct_turned : (xs ys : List ℕ) → Distinct (xs ++ ys) → Distinct (ys ++ xs)
distinct_turned xs ys d =
    let p = distinct_parts xs ys d in
    distinct_append ys xs p.1 p.0 (Each_from (λ y. Each (λ x. y ≢ x) xs) ys (λ y h. Each_from (λ x. y ≢ x) xs (λ x k e. Each_at (λ z. x ≢ z) ys y (Each_at (λ w. Each (λ z. w ≢ z) ys) xs x p.2 k) h (sym e))))

-- the list is cut at a member
cut : (m : ℕ) (xs : List ℕ) → In m xs → (back : List ℕ) × (from m xs ≡ m ∷ back) × (xs ≡ until m xs ++ m ∷ back)
unfolding from until
cut m [] h = absurd h
cut m (x ∷ xs) h = go (cases_eq m x) (cut m xs)
  where
    go : (m ≡ x) ⊎ (m ≡ x → ⊥) → (In m xs → (back : List ℕ) × (from m xs ≡ m ∷ back) × (xs ≡ until m xs ++ m ∷ back)) → (back : List ℕ) × (from m (x ∷ xs) ≡ m ∷ back) × (x ∷ xs ≡ until m (x ∷ xs) ++ m ∷ back)
    go (inl e) deep = (xs, rw (eq-eqb m x e) (ap (λ z. z ∷ xs) (sym e)), rw (eq-eqb m x e) (ap (λ z. z ∷ xs) (sym e)))
    go (inr n) deep =
        let inside : In m xs = elim h [ inl e ↦ absurd (n e) | inr k ↦ k ] in
        let r = deep inside in
        (r.0, rw (ne_eqb m x n) r.1, rw (ne_eqb m x n) (ap (λ l. x ∷ l) r.2))

least_in : (x : ℕ) (xs : List ℕ) → In (minimum x xs) (x ∷ xs)
unfolding minimum
least_in x [] = inl refl
least_in x (y ∷ ys) = elim (cases_min x (minimum y ys)) [ inl e ↦ inl e | inr e ↦ inr (subst (λ w. In w (y ∷ ys)) (sym e) (least_in y ys)) ]
  where
    cases_min : (a b : ℕ) → (min a b ≡ a) ⊎ (min a b ≡ b)
    cases_min a b = grind arith

least_low : (x : ℕ) (xs : List ℕ) → Each (λ y. minimum x xs ≤ y) (x ∷ xs)
unfolding minimum
least_low x [] = (omega arith, tt)
least_low x (y ∷ ys) = (omega arith, Each_weaker _ _ (y ∷ ys) (λ z h. omega (arith, h)) (least_low y ys))

-- what it is once it begins with its least
record Begun (t : List Step) (c : List ℕ) : Type 0 where
  walked : Walked t c
  lowest : Each (λ i. get_or c 0 0 ≤ i) c

begun : (t : List Step) (c : List ℕ) → Walked t c → Begun t (rotation_to_minimum c)
unfolding rotation_to_minimum
begun t [] w = absurd (omega (arith, w.several))
begun t (x ∷ xs) w =
    let m = minimum x xs in
    let r = cut m (x ∷ xs) (least_in x xs) in
    let front = until m (x ∷ xs) in
    let back = r.0 in
    let is : from m (x ∷ xs) ++ front ≡ m ∷ (back ++ front) = ap (λ l. l ++ front) r.1 in
    let low = Each_parts (λ y. m ≤ y) front (m ∷ back) (subst (λ l. Each (λ y. m ≤ y) l) r.2 (least_low x xs)) in
    let long : suc (length xs) ≡ length front + suc (length back) = ap length r.2 ∙ length-append front (m ∷ back) in
    subst (λ c. Begun t c) (sym is) (record {
      walked = record {
        around = around_turned t front m back (subst (λ l. Around t l) r.2 w.around);
        distinct = distinct_turned front (m ∷ back) (subst Distinct r.2 w.distinct);
        several = omega (arith, w.several, long, length-append back front);
      };
      lowest = (omega arith, Each_append (λ y. m ≤ y) back front low.1.1 low.0);
    })

-- by places
chain_suc : (t : List Step) (xs : List ℕ) → Chain t xs → (k : ℕ) → suc k < length xs → before t (get_or xs k 0) (get_or xs (suc k) 0) ≡ true
chain_suc t [] c k h = absurd (omega arith)
chain_suc t (x ∷ []) c k h = absurd (omega arith)
chain_suc t (x ∷ y ∷ ys) c zero h = c.0
chain_suc t (x ∷ y ∷ ys) c (suc k) h = chain_suc t (y ∷ ys) c.1 k (omega arith)

chain_at : (t : List Step) (xs : List ℕ) → Chain t xs → (k : ℕ) → k + 1 < length xs → before t (get_or xs k 0) (get_or xs (k + 1) 0) ≡ true
chain_at t xs c k h = rw (add-one k) (chain_suc t xs c k (omega arith))

less_one : (n : ℕ) → n ≡ suc n - 1
less_one n = omega arith

by_places : (t : List Step) (c : List ℕ) → Begun t c → IsCycle t c
by_places t [] b = absurd (omega (arith, b.walked.several))
by_places t (x ∷ xs) b =
    let c : List ℕ = x ∷ xs in
    let long : length (c ++ x ∷ []) ≡ length c + 1 = length-append c (x ∷ []) in
    record {
      several = b.walked.several;
      distinct = Pairs_at (λ i j. i ≢ j) c b.walked.distinct;
      least_first = All_from_Each (λ i. x ≤ i) c b.lowest;
      each_before = λ k h. subst (λ w. before t w (get_or c (k + 1) 0) ≡ true) (get_or_append_left c (x ∷ []) 0 k (omega (arith, h))) (subst (λ w. before t (get_or (c ++ x ∷ []) k 0) w ≡ true) (get_or_append_left c (x ∷ []) 0 (k + 1) h) (chain_at t (c ++ x ∷ []) b.walked.around k (omega (arith, h, long))));
      last_before = subst (λ n. before t (get_or c n 0) x ≡ true) (less_one (length xs)) (subst (λ w. before t w x ≡ true) (get_or_append_left c (x ∷ []) 0 (length xs) (omega arith)) (subst (λ w. before t (get_or (c ++ x ∷ []) (length xs) 0) w ≡ true) (get_or_at c x [] 0 (length xs + 1) (omega arith)) (chain_at t (c ++ x ∷ []) b.walked.around (length xs) (omega (arith, long)))));
    }

in_rest : (t : List Step) (rest : List ℕ) → Stuck t rest → (rest ≡ [] → ⊥) → IsCycle t (cycle_in t rest)
unfolding cycle_in
in_rest t [] s n = absurd (n refl)
in_rest t (i ∷ is) s n = by_places t _ (begun t _ (walked t (i ∷ is) s (length (i ∷ is)) i [] tt (tt, tt) (inl refl, tt) (omega arith)))

pub cycle_named : CycleNamed
unfolding cycle
cycle_named t n = in_rest t (placing t).rest (rest_stuck t) (λ e. n (free_from_placed t e))

-- more moves change nothing
walk_more : (t : List Step) (rest : List ℕ) → Stuck t rest → (n m present : ℕ) (earlier : List ℕ) → n ≤ m → Chain t (present ∷ earlier) → Distinct (present ∷ earlier) → Each (λ x. In x rest) (present ∷ earlier) → length rest ≤ n + length earlier → walk t rest m present earlier ≡ walk t rest n present earlier
walk_more t rest s zero m present earlier less chain d inside room = absurd (omega (arith, no_more (present ∷ earlier) rest d inside, room))
walk_more t rest s (suc n) zero present earlier less chain d inside room = absurd (omega arith)
walk_more t rest s (suc n) (suc m) present earlier less chain d inside room = go (cases_Bool (is_among next.0 (present ∷ earlier))) (λ f. walk_more t rest s n m next.0 (present ∷ earlier) (omega arith) (next.3, chain) (fresh f, d) (next.2, inside) (omega (arith, room)))
  where
    next : (i : ℕ) × (least_before t rest present ≡ Some i) × In i rest × (before t i present ≡ true)
    next = next_back t rest s present inside.0

    fresh : is_among next.0 (present ∷ earlier) ≡ false → Each (λ j. next.0 ≢ j) (present ∷ earlier)
    fresh f = Each_from (λ j. next.0 ≢ j) (present ∷ earlier) (λ j h e. not_among next.0 (present ∷ earlier) f (subst (λ w. In w (present ∷ earlier)) (sym e) h))

    go : (is_among next.0 (present ∷ earlier) ≡ true) ⊎ (is_among next.0 (present ∷ earlier) ≡ false) → (is_among next.0 (present ∷ earlier) ≡ false → walk t rest m next.0 (present ∷ earlier) ≡ walk t rest n next.0 (present ∷ earlier)) → walk t rest (suc m) present earlier ≡ walk t rest (suc n) present earlier
    go (inl e) deep = walk_ends t rest m present earlier next.0 next.1 e ∙ sym (walk_ends t rest n present earlier next.0 next.1 e)
    go (inr f) deep = walk_none t rest m present earlier next.0 next.1 f ∙ deep f ∙ sym (walk_none t rest n present earlier next.0 next.1 f)

pub moves_suffice : MovesSuffice
moves_suffice t i is e n h = walk_more t (i ∷ is) (subst (λ r. Stuck t r) e (rest_stuck t)) (length (i ∷ is)) n i [] h tt (tt, tt) (inl refl, tt) (omega arith)
