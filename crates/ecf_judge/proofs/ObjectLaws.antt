-- A verdict read off the objects with several invocations, one after the other.
use Rattle.std.proofs.Common.{◌≡◌, ℕ, zero, suc, ◌<◌, ◌≤◌, Bool, true, false, not, cond, ◌||◌, ◌==◌, List, [], ◌∷◌, ◌++◌, length, map, find, Option, Some, None, get_or, inl, inr, refl, sym, ap, ◌∙◌, subst, arith}
use Rattle.std.specs.List.{list_any}
use Rattle.std.proofs.lemmas.Bool.{cases_Bool, cases_lt, both_ways, lt-ltb, le-ltb}
use Rattle.std.proofs.lemmas.List.{append-nil, get_or_past}
use Rattle.std.proofs.lemmas.List.Folds.{find-append}
use Rattle.ecf_conflict.specs.Laws.{NumbersAreMembers}
use Rattle.ecf_graph.specs.Placement.{placement_of}
use Rattle.ecf_graph.specs.Rows.{numbers_below}
use Rattle.ecf_judge.proofs.MembershipLaws.{nobody_empty, several_members, few_members, few_placed}
use Rattle.ecf_judge.specs.Judged.{JudgesObject, verdict_of}
use Rattle.ecf_judge.specs.Membership.{membership}
use Rattle.ecf_judge.specs.declared.membership.Membership.{Membership}
use Rattle.ecf_judge.specs.declared.membership.Membership.TheVariants.{Nobody, Several}
use Rattle.ecf_judge.specs.declared.verdict.Verdict.{Verdict as Answer}
use Rattle.ecf_lang.specs.declared.receipt.Order.{Order}
use Rattle.ecf_lang.specs.declared.run.Step.{Step}
use Rattle.ecf_online.specs.Watched.{first_not_free}
use Rattle.ecf_precedence.specs.Laws.{PlacingIsPlacement}
use Rattle.ecf_verdicts.specs.Before.{before}
use Rattle.ecf_verdicts.specs.Cycles.{at, cycle, cycle_in, is_placed}
use Rattle.ecf_verdicts.specs.Laws.{MembersAre, SingleFree, TestTellsFree}
use Rattle.ecf_verdicts.specs.Placing.{placing}
use Rattle.ecf_verdicts.specs.Traces.{trace, members, objects, with_number}
use Rattle.ecf_verdicts.specs.Verdicts.{Approved, Vetoed, orders, verdict, vetoed_object}
use Rattle.ecf_verdicts.specs.Words.{order}

-- some step is on the object
abbrev pub has_steps : List Step → ℕ → Bool
has_steps steps o = list_any (λ (s : Step). s.cell.object == o) steps

-- the object's trace isn't free
abbrev pub is_bad : List Step → ℕ → Bool
is_bad steps o = not (is_placed (trace steps o))

-- each step under its object's number
abbrev by_object : Step → Step
by_object s = record { inv = s.cell.object; write = s.write; cell = s.cell; value = s.value }

objects_are : (steps : List Step) → objects steps ≡ members (map by_object steps)
unfolding objects members
objects_are [] = refl
objects_are (s ∷ rest) = ap (with_number s.cell.object) (objects_are rest)

any_by_object : (steps : List Step) (o : ℕ) → list_any (λ (s : Step). s.inv == o) (map by_object steps) ≡ has_steps steps o
any_by_object [] o = refl
any_by_object (s ∷ rest) o = ap (λ b. (s.cell.object == o) || b) (any_by_object rest o)

no_steps : (steps : List Step) (o : ℕ) → trace steps o ≡ [] → has_steps steps o ≡ false
unfolding trace
no_steps [] o e = refl
no_steps (s ∷ rest) o e = go (s.cell.object == o) e (no_steps rest o)
  where
    go : (b : Bool) → cond b (s ∷ trace rest o) (trace rest o) ≡ [] → (trace rest o ≡ [] → has_steps rest o ≡ false) → (b || has_steps rest o) ≡ false
    go true f deep = absurd (cc)
    go false f deep = deep f

steps_of : (steps : List Step) (o : ℕ) → has_steps steps o ≡ false → trace steps o ≡ []
unfolding trace
steps_of [] o e = refl
steps_of (s ∷ rest) o e = go (s.cell.object == o) e (steps_of rest o)
  where
    go : (b : Bool) → (b || has_steps rest o) ≡ false → (has_steps rest o ≡ false → trace rest o ≡ []) → cond b (s ∷ trace rest o) (trace rest o) ≡ []
    go true f deep = absurd (both_ways true f refl)
    go false f deep = deep f

-- the objects with steps are those below the table's length that have some
pub objects_below : NumbersAreMembers → (steps : List Step) (table : List Membership) → ((o : ℕ) → get_or table o Nobody ≡ membership (trace steps o)) →
    (n : ℕ) → length table ≡ n → numbers_below (has_steps steps) n ≡ objects steps
objects_below are steps table tells n len =
    are (map by_object steps) (has_steps steps) n (λ o. sym (any_by_object steps o))
    (λ o e. elim (cases_lt o n) [
      | inl l ↦ l
      | inr g ↦ absurd (both_ways _ (no_steps steps o (nobody_empty (trace steps o) (sym (get_or_past table o Nobody (omega (arith, len, g))) ∙ tells o))) (sym (any_by_object steps o) ∙ e))
    ])
    ∙ sym (objects_are steps)

-- orders of objects one after the other
orders-append : (steps : List Step) (xs ys : List ℕ) → orders steps (xs ++ ys) ≡ orders steps xs ++ orders steps ys
unfolding orders
orders-append steps [] ys = refl
orders-append steps (x ∷ xs) ys = elim (cases_lt 1 (length (members (trace steps x)))) [
  | inl l ↦ rw (lt-ltb 1 (length (members (trace steps x))) l) (ap (λ os. order x (placing (trace steps x)).order ∷ os) (orders-append steps xs ys))
  | inr g ↦ rw (le-ltb 1 (length (members (trace steps x))) g) (orders-append steps xs ys)
]

order_one : (steps : List Step) (o : ℕ) → 1 < length (members (trace steps o)) → orders steps (o ∷ []) ≡ order o (placing (trace steps o)).order ∷ []
unfolding orders
order_one steps o l = rw (lt-ltb 1 (length (members (trace steps o))) l) refl

order_none : (steps : List Step) (o : ℕ) → length (members (trace steps o)) ≤ 1 → orders steps (o ∷ []) ≡ []
unfolding orders
order_none steps o g = rw (le-ltb 1 (length (members (trace steps o))) g) refl

-- what is settled when the objects below a number are judged
pub record SettledBelow (steps : List Step) (n : ℕ) (os : List Order) : Type 0 where
  pub orders_are : os ≡ orders steps (numbers_below (has_steps steps) n)
  pub none_bad : find (is_bad steps) (numbers_below (has_steps steps) n) ≡ None

pub settled_none : (steps : List Step) (os : List Order) → os ≡ [] → SettledBelow steps 0 os
unfolding numbers_below orders
settled_none steps os e = record { orders_are = e; none_bad = refl }

below_with : (p : ℕ → Bool) (n : ℕ) → p n ≡ true → numbers_below p (suc n) ≡ numbers_below p n ++ n ∷ []
unfolding numbers_below
below_with p n e = rw e refl

below_without : (p : ℕ → Bool) (n : ℕ) → p n ≡ false → numbers_below p (suc n) ≡ numbers_below p n
unfolding numbers_below
below_without p n e = rw e (append-nil (numbers_below p n))

find_next : (q : ℕ → Bool) (xs : List ℕ) (x : ℕ) → find q xs ≡ None → q x ≡ false → find q (xs ++ x ∷ []) ≡ None
find_next q xs x e f = find-append q xs (x ∷ []) ∙ (rw (e, f) refl)

find_last : (q : ℕ → Bool) (xs : List ℕ) (x : ℕ) → find q xs ≡ None → q x ≡ true → find q (xs ++ x ∷ []) ≡ Some x
find_last q xs x e f = find-append q xs (x ∷ []) ∙ (rw (e, f) refl)

find_front : (q : ℕ → Bool) (xs ys : List ℕ) (x : ℕ) → find q xs ≡ Some x → find q (xs ++ ys) ≡ Some x
find_front q xs ys x e = find-append q xs ys ∙ (rw e refl)

-- an object with one more that is placed
settled_placed : (steps : List Step) (n : ℕ) (os more : List Order) → is_placed (trace steps n) ≡ true → orders steps (n ∷ []) ≡ more →
    has_steps steps n ≡ true → SettledBelow steps n os → SettledBelow steps (suc n) (os ++ more)
settled_placed steps n os more e f has s = record {
  orders_are = ap (λ l. l ++ more) s.orders_are ∙ (ap (λ l. orders steps (numbers_below (has_steps steps) n) ++ l) (sym f) ∙ (sym (orders-append steps (numbers_below (has_steps steps) n) (n ∷ [])) ∙ ap (orders steps) (sym (below_with (has_steps steps) n has))));
  none_bad = ap (find (is_bad steps)) (below_with (has_steps steps) n has) ∙ find_next (is_bad steps) (numbers_below (has_steps steps) n) n s.none_bad (ap not e);
}

-- an object without several invocations changes nothing
pub settled_few : MembersAre → SingleFree → TestTellsFree → (steps : List Step) (n : ℕ) (os : List Order) → (membership (trace steps n) ≡ Several → ⊥) →
    SettledBelow steps n os → SettledBelow steps (suc n) os
settled_few are single tells steps n os few s = elim (cases_Bool (has_steps steps n)) [
  | inl has ↦ subst (λ l. SettledBelow steps (suc n) l) (append-nil os) (settled_placed steps n os [] (few_placed single tells (trace steps n) few) (order_none steps n (few_members are (trace steps n) few)) has s)
  | inr none ↦ record {
    orders_are = s.orders_are ∙ ap (orders steps) (sym (below_without (has_steps steps) n none));
    none_bad = ap (find (is_bad steps)) (below_without (has_steps steps) n none) ∙ s.none_bad;
  }
]

-- objects without several invocations change nothing
pub settled_rest : MembersAre → SingleFree → TestTellsFree → (steps : List Step) (n m : ℕ) (os : List Order) → n ≤ m → ((o : ℕ) → membership (trace steps o) ≡ Several → o < n) →
    SettledBelow steps n os → SettledBelow steps m os
settled_rest are single tells steps n zero os h few s = subst (λ k. SettledBelow steps k os) (let z : n ≡ 0 = omega (arith, h) in z) s
settled_rest are single tells steps n (suc m) os h few s = elim (cases_lt m n) [
  | inl l ↦ subst (λ k. SettledBelow steps k os) (let z : n ≡ suc m = omega (arith, h, l) in z) s
  | inr g ↦ settled_few are single tells steps m os (λ e. (let l = few m e in omega (arith, l, g))) (settled_rest are single tells steps n m os g few s)
]

no_members : (t : List Step) → t ≡ [] → length (members t) ≡ 0
unfolding members
no_members t e = rw e refl

-- several invocations have steps
several_steps : MembersAre → (steps : List Step) (n : ℕ) → membership (trace steps n) ≡ Several → has_steps steps n ≡ true
several_steps are steps n several = elim (cases_Bool (has_steps steps n)) [
  | inl has ↦ has
  | inr none ↦ absurd (omega (arith, several_members are (trace steps n) several, no_members (trace steps n) (steps_of steps n none)))
]

pub settled_order : MembersAre → (steps : List Step) (n : ℕ) (os os' : List Order) → membership (trace steps n) ≡ Several → is_placed (trace steps n) ≡ true →
    os' ≡ os ++ order n (placing (trace steps n)).order ∷ [] → SettledBelow steps n os → SettledBelow steps (suc n) os'
settled_order are steps n os os' several e more s =
    subst (λ l. SettledBelow steps (suc n) l) (sym more) (settled_placed steps n os _ e (order_one steps n (several_members are (trace steps n) several)) (several_steps are steps n several) s)

approved : (steps : List Step) → vetoed_object steps ≡ None → verdict steps ≡ Approved (orders steps (objects steps))
unfolding verdict
approved steps e = rw (e, verdict) refl

vetoed : (steps : List Step) (o : ℕ) → vetoed_object steps ≡ Some o → verdict steps ≡ Vetoed o (at (trace steps o)) (cycle (trace steps o))
unfolding verdict
vetoed steps o e = rw (e, verdict) refl

-- the verdict at the end, and at an object that isn't free
pub settled_all : (steps : List Step) (n : ℕ) (os : List Order) → numbers_below (has_steps steps) n ≡ objects steps → SettledBelow steps n os → Approved os ≡ verdict steps
unfolding vetoed_object
settled_all steps n os all s =
    let none : vetoed_object steps ≡ None = ap (find (is_bad steps)) (sym all) ∙ s.none_bad in
    ap Approved (s.orders_are ∙ ap (orders steps) all) ∙ sym (approved steps none)

-- the verdict where no object has several
none_found : (q : ℕ → Bool) (xs : List ℕ) → ((x : ℕ) → q x ≡ false) → find q xs ≡ None
none_found q [] f = refl
none_found q (x ∷ xs) f = rw (f x) (none_found q xs f)

no_orders : (steps : List Step) (xs : List ℕ) → ((o : ℕ) → length (members (trace steps o)) ≤ 1) → orders steps xs ≡ []
unfolding orders
no_orders steps [] few = refl
no_orders steps (x ∷ xs) few = rw (le-ltb 1 (length (members (trace steps x))) (few x)) (no_orders steps xs few)

pub approved_few : MembersAre → SingleFree → TestTellsFree → (steps : List Step) (os : List Order) → os ≡ [] → ((o : ℕ) → membership (trace steps o) ≡ Several → ⊥) → Approved os ≡ verdict steps
unfolding vetoed_object
approved_few are single tells steps os e few =
    let none : vetoed_object steps ≡ None = none_found (is_bad steps) (objects steps) (λ o. ap not (few_placed single tells (trace steps o) (few o))) in
    ap Approved (e ∙ sym (no_orders steps (objects steps) (λ o. few_members are (trace steps o) (few o)))) ∙ sym (approved steps none)

found_later : (steps : List Step) (p : ℕ → Bool) (x n m : ℕ) → n ≤ m → find (is_bad steps) (numbers_below p n) ≡ Some x → find (is_bad steps) (numbers_below p m) ≡ Some x
unfolding numbers_below
found_later steps p x n zero h e = subst (λ k. find (is_bad steps) (numbers_below p k) ≡ Some x) (let z : n ≡ 0 = omega (arith, h) in z) e
found_later steps p x n (suc m) h e = elim (cases_lt m n) [
  | inl l ↦ subst (λ k. find (is_bad steps) (numbers_below p k) ≡ Some x) (let z : n ≡ suc m = omega (arith, h, l) in z) e
  | inr g ↦ find_front (is_bad steps) (numbers_below p m) _ x (found_later steps p x n m g e)
]

pub settled_veto : MembersAre → (steps : List Step) (o n : ℕ) (os : List Order) → numbers_below (has_steps steps) n ≡ objects steps → o < n →
    membership (trace steps o) ≡ Several → is_placed (trace steps o) ≡ false → SettledBelow steps o os →
    Vetoed o (at (trace steps o)) (cycle (trace steps o)) ≡ verdict steps
unfolding vetoed_object
settled_veto are steps o n os all h several e s =
    let p = has_steps steps in
    let here : find (is_bad steps) (numbers_below p (suc o)) ≡ Some o = ap (find (is_bad steps)) (below_with p o (several_steps are steps o several)) ∙ find_last (is_bad steps) (numbers_below p o) o s.none_bad (ap not e) in
    let found : vetoed_object steps ≡ Some o = ap (find (is_bad steps)) (sym all) ∙ found_later steps p o (suc o) n (omega (arith, h)) here in
    sym (vetoed steps o found)

-- what a monitor's answers say of one trace
pub placed_where_none : (t : List Step) → None ≡ first_not_free t → is_placed t ≡ true
unfolding first_not_free
placed_where_none t e = go (is_placed t) refl e
  where
    go : (b : Bool) → is_placed t ≡ b → None ≡ cond b None (Some (at t)) → is_placed t ≡ true
    go true f g = f
    go false f g = absurd (cc)

pub stuck_where_some : (t : List Step) (k : ℕ) → Some k ≡ first_not_free t → (is_placed t ≡ false) × (k ≡ at t)
unfolding first_not_free
stuck_where_some t k e = go (is_placed t) refl e
  where
    go : (b : Bool) → is_placed t ≡ b → Some k ≡ cond b None (Some (at t)) → (is_placed t ≡ false) × (k ≡ at t)
    go true f g = absurd (cc)
    go false f g = (f, cc)

pub same_veto : (o n m : ℕ) (c d : List ℕ) → n ≡ m → c ≡ d → Vetoed o n c ≡ Vetoed o m d
same_veto o n m c d e f = rw (e, f) refl

-- what the judging of a trace says where it is that of the object
pub same_free : (o : ℕ) (t u : List Step) (old new : List Order) (veto : Option Answer) → t ≡ u → veto ≡ None → JudgesObject o t old new veto →
    (is_placed u ≡ true) × (new ≡ old ++ order o (placing u).order ∷ [])
same_free o t u old new veto e none h = subst (λ v. (is_placed v ≡ true) × (new ≡ old ++ order o (placing v).order ∷ [])) e (subst (λ v. JudgesObject o t old new v) none h)

pub same_stuck : (o : ℕ) (t u : List Step) (old new : List Order) (veto : Option Answer) (v : Answer) → t ≡ u → veto ≡ Some v → JudgesObject o t old new veto →
    (is_placed u ≡ false) × (verdict_of v ≡ Vetoed o (at u) (cycle u))
same_stuck o t u old new veto v e some h = subst (λ w. (is_placed w ≡ false) × (verdict_of v ≡ Vetoed o (at w) (cycle w))) e (subst (λ x. JudgesObject o t old new x) some h)

-- a trace has no more steps than the run
pub length-trace : (steps : List Step) (o : ℕ) → length (trace steps o) ≤ length steps
unfolding trace
length-trace [] o = omega arith
length-trace (s ∷ rest) o = go (s.cell.object == o) (length-trace rest o)
  where
    go : (b : Bool) → length (trace rest o) ≤ length rest → length (cond b (s ∷ trace rest o) (trace rest o)) ≤ length (s ∷ rest)
    go true h = omega (arith, h)
    go false h = omega (arith, h)

pub cycle_from : PlacingIsPlacement → (t : List Step) (rest c : List ℕ) → rest ≡ (placement_of (before t) (members t)).rest → c ≡ cycle_in t rest → c ≡ cycle t
unfolding cycle
cycle_from are t rest c e f = f ∙ ap (cycle_in t) (e ∙ sym (are t).1)
