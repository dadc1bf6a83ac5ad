-- What a veto and an approval say of the traces.
use Rattle.std.proofs.Common.{◌≡◌, ℕ, ◌<◌, ◌≤◌, Bool, true, false, not, List, [], ◌∷◌, map, length, find, Some, None, ◌⊎◌, inl, inr, refl, sym, ap, ◌∙◌, subst, arith}
use Rattle.std.proofs.lemmas.Bool.{cases_Bool, cases_eq, cases_lt, ne_eqb, lt-ltb, le-ltb, not-true, not-false}
use Rattle.std.proofs.lemmas.Option.{same_Some}
use Rattle.ecf_lang.specs.declared.receipt.Order.{Order}
use Rattle.ecf_lang.specs.declared.run.Step.{Step}
use Rattle.ecf_verdicts.specs.Cycles.{is_placed, at, cycle}
use Rattle.ecf_verdicts.specs.Free.{Free}
use Rattle.ecf_verdicts.specs.Laws.{IsShortest, IsCycle, IsVeto, ListsOrders, VetoesLeast, VetoesExplain, ApprovesFree, VetoedExactlyWhere, ApprovesOrders}
use Rattle.ecf_verdicts.specs.Placing.{placing}
use Rattle.ecf_verdicts.specs.Traces.{trace, with_number, members, objects}
use Rattle.ecf_verdicts.specs.Verdicts.{Verdict, Approved, Vetoed, verdict, orders, vetoed_object}
use Rattle.ecf_verdicts.proofs.AtLaws.{free_from_test, not_free, nothing_placed}
use Rattle.ecf_verdicts.proofs.AtLaws.{at_is_shortest}
use Rattle.ecf_verdicts.proofs.CycleLaws.{cycle_named}
use Rattle.ecf_verdicts.specs.ListLemmas.{Each, Has, In, Each_at, Each_from, Each_weaker, Has_in, All_from_Each, Any_from_Has, Has_from_Any, find_some, find_none, option_cases}
use Rattle.ecf_verdicts.specs.RisingLemmas.{Rising, increasing_from}
use Rattle.ecf_verdicts.proofs.MemberLaws.{In_with_number_new, In_with_number_old, Rising_with_number}

Rising_objects : (t : List Step) → Rising (objects t)
unfolding objects
Rising_objects [] = tt
Rising_objects (s ∷ rest) = Rising_with_number s.cell.object (objects rest) (Rising_objects rest)

-- an object with no step has no trace
no_trace : (steps : List Step) (o : ℕ) → (In o (objects steps) → ⊥) → trace steps o ≡ []
unfolding objects trace
no_trace [] o n = refl
no_trace (s ∷ rest) o n =
    rw (ne_eqb s.cell.object o (λ e. n (subst (λ x. In x (with_number s.cell.object (objects rest))) e (In_with_number_new s.cell.object (objects rest)))))
    (no_trace rest o (λ i. n (In_with_number_old o s.cell.object (objects rest) i)))

pub cases_in : (o : ℕ) (xs : List ℕ) → In o xs ⊎ (In o xs → ⊥)
cases_in o [] = inr (λ h. h)
cases_in o (x ∷ xs) = elim (cases_eq o x) [
  | inl e ↦ inl (inl e)
  | inr n ↦ elim (cases_in o xs) [ inl i ↦ inl (inr i) | inr m ↦ inr (λ h. elim h [ inl e ↦ n e | inr i ↦ m i ]) ]
]

-- what is found in a rising list is the least that passes
pub find_least : (p : ℕ → Bool) (xs : List ℕ) (x y : ℕ) → Rising xs → find p xs ≡ Some x → In y xs → y < x → p y ≡ false
find_least p [] x y r e i l = absurd i
find_least p (z ∷ zs) x y r e i l = elim (cases_Bool (p z)) [
  | inl t ↦ (let same : z ≡ x = same_Some _ _ (rw t at e) in
      elim i [
        | inl f ↦ absurd (omega (arith, f, same, l))
        | inr j ↦ absurd (omega (arith, Each_at (λ w. z < w) zs y r.0 j, same, l))
      ])
  | inr f ↦ elim i [
    | inl g ↦ ap p g ∙ f
    | inr j ↦ find_least p zs x y r.1 (rw f at e) j l
  ]
]

free_of_none : (steps : List Step) (o : ℕ) → (In o (objects steps) → is_placed (trace steps o) ≡ true) → Free (trace steps o)
free_of_none steps o f = free_from_test (trace steps o) (elim (cases_in o (objects steps)) [ inl i ↦ f i | inr n ↦ subst (λ t. is_placed t ≡ true) (sym (no_trace steps o n)) nothing_placed ])

approved_none : (steps : List Step) → vetoed_object steps ≡ None → verdict steps ≡ Approved (orders steps (objects steps))
unfolding verdict
approved_none steps e = rw (e, verdict) refl

vetoed_some : (steps : List Step) (o : ℕ) → vetoed_object steps ≡ Some o → verdict steps ≡ Vetoed o (at (trace steps o)) (cycle (trace steps o))
unfolding verdict
vetoed_some steps o e = rw (e, verdict) refl

not_both : (os : List Order) (o n : ℕ) (c : List ℕ) → Approved os ≡ Vetoed o n c → ⊥
not_both os o n c e = cc

same_object : (o p n m : ℕ) (c d : List ℕ) → Vetoed o n c ≡ Vetoed p m d → o ≡ p
same_object o p n m c d e = cc

least_from : (steps : List Step) (o : ℕ) → vetoed_object steps ≡ Some o → (Free (trace steps o) → ⊥) × ((p : ℕ) → p < o → Free (trace steps p))
unfolding vetoed_object
least_from steps o e = (
  not_free (trace steps o) (not-true _ (find_some (λ q. not (is_placed (trace steps q))) (objects steps) o e).1),
  λ p l. free_of_none steps p (λ i. not-false _ (find_least (λ q. not (is_placed (trace steps q))) (objects steps) o p (Rising_objects steps) e i l)),
)

pub vetoes_least : VetoesLeast
vetoes_least steps o n c e = elim (option_cases (vetoed_object steps)) [
  | inl none ↦ absurd (not_both _ o n c (sym (approved_none steps none) ∙ e))
  | inr some ↦ least_from steps o (some.1 ∙ ap (λ x. Some x) (same_object _ o _ n _ c (sym (vetoed_some steps some.0 some.1) ∙ e)))
]

all_from : (steps : List Step) → vetoed_object steps ≡ None → (o : ℕ) → Free (trace steps o)
unfolding vetoed_object
all_from steps e o = free_of_none steps o (λ i. not-false _ (Each_at (λ q. not (is_placed (trace steps q)) ≡ false) (objects steps) o (find_none (λ q. not (is_placed (trace steps q))) (objects steps) e) i))

pub approves_free : ApprovesFree
approves_free steps os e = elim (option_cases (vetoed_object steps)) [
  | inl none ↦ all_from steps none
  | inr some ↦ absurd (not_both os _ _ _ (sym e ∙ vetoed_some steps some.0 some.1))
]

-- what a verdict says of the object that it names
abbrev Explained : List Step → Verdict → Type 0
Explained steps (Approved os) = Unit {0}
Explained steps (Vetoed o n c) = IsShortest (trace steps o) n × IsCycle (trace steps o) c

pub vetoes_explain : VetoesExplain
vetoes_explain steps o n c e = elim (option_cases (vetoed_object steps)) [
  | inl none ↦ absurd (not_both _ o n c (sym (approved_none steps none) ∙ e))
  | inr some ↦ (let f = (least_from steps some.0 some.1).0 in subst (λ v. Explained steps v) (sym (vetoed_some steps some.0 some.1) ∙ e) (at_is_shortest (trace steps some.0) f, cycle_named (trace steps some.0) f))
]

pub vetoed_exactly_where : VetoedExactlyWhere
vetoed_exactly_where steps = (
  λ v. elim (option_cases (vetoed_object steps)) [
    | inl none ↦ absurd (subst IsVeto (approved_none steps none) v)
    | inr some ↦ (some.0, (least_from steps some.0 some.1).0)
  ],
  λ w. elim (option_cases (vetoed_object steps)) [
    | inl none ↦ absurd (w.1 (all_from steps none w.0))
    | inr some ↦ subst IsVeto (sym (vetoed_some steps some.0 some.1)) tt
  ],
)

-- one object of an approval
several : List Step → ℕ → ℕ
several steps o = length (members (trace steps o))

order_on : List Step → ℕ → Order
order_on steps o = record { object = o; invs = (placing (trace steps o)).order }

orders_with : (steps : List Step) (o : ℕ) (os : List ℕ) → 1 < several steps o → orders steps (o ∷ os) ≡ order_on steps o ∷ orders steps os
unfolding orders several order_on
orders_with steps o os h = rw (lt-ltb 1 (length (members (trace steps o))) h) refl

orders_without : (steps : List Step) (o : ℕ) (os : List ℕ) → several steps o ≤ 1 → orders steps (o ∷ os) ≡ orders steps os
unfolding orders several order_on
orders_without steps o os h = rw (le-ltb 1 (length (members (trace steps o))) h) refl

-- each order is of one of the objects, and names its placing
abbrev IsOf : List Step → List ℕ → Order → Type 0
IsOf steps os r = In r.object os × (r.invs ≡ (placing (trace steps r.object)).order) × (1 < several steps r.object)

named_is_of : (steps : List Step) (o : ℕ) (os : List ℕ) → 1 < several steps o → IsOf steps (o ∷ os) (order_on steps o)
unfolding order_on several
named_is_of steps o os l = (inl refl, refl, l)

named_object : (steps : List Step) (o : ℕ) → (order_on steps o).object ≡ o
unfolding order_on
named_object steps o = refl

orders_of : (steps : List Step) (os : List ℕ) → Each (IsOf steps os) (orders steps os)
unfolding orders
orders_of steps [] = tt
orders_of steps (o ∷ os) = go (cases_lt 1 (several steps o)) (Each_weaker _ _ (orders steps os) (λ r h. (inr h.0, h.1, h.2)) (orders_of steps os))
  where
    go : (1 < several steps o) ⊎ (several steps o ≤ 1) → Each (IsOf steps (o ∷ os)) (orders steps os) → Each (IsOf steps (o ∷ os)) (orders steps (o ∷ os))
    go (inl l) deep = subst (λ l. Each (IsOf steps (o ∷ os)) l) (sym (orders_with steps o os l)) (named_is_of steps o os l, deep)
    go (inr g) deep = subst (λ l. Each (IsOf steps (o ∷ os)) l) (sym (orders_without steps o os g)) deep

In_map : (f : Order → ℕ) (rs : List Order) (y : ℕ) → In y (map f rs) → Has (λ r. f r ≡ y) rs
In_map f [] y h = h
In_map f (r ∷ rs) y (inl e) = inl (sym e)
In_map f (r ∷ rs) y (inr h) = inr (In_map f rs y h)

orders_rise : (steps : List Step) (os : List ℕ) → Rising os → Rising (map (λ (r : Order). r.object) (orders steps os))
unfolding orders
orders_rise steps [] h = tt
orders_rise steps (o ∷ os) h = go (cases_lt 1 (several steps o)) (orders_rise steps os h.1)
  where
    above : (y : ℕ) → In y (map (λ (r : Order). r.object) (orders steps os)) → o < y
    above y i =
        let r = Has_in (λ (r : Order). r.object ≡ y) (orders steps os) (In_map (λ (r : Order). r.object) (orders steps os) y i) in
        subst (λ z. o < z) r.2 (Each_at (λ z. o < z) os _ h.0 (Each_at (IsOf steps os) (orders steps os) r.0 (orders_of steps os) r.1).0)

    go : (1 < several steps o) ⊎ (several steps o ≤ 1) → Rising (map (λ (r : Order). r.object) (orders steps os)) → Rising (map (λ (r : Order). r.object) (orders steps (o ∷ os)))
    go (inl l) deep = subst (λ rs. Rising (map (λ (r : Order). r.object) rs)) (sym (orders_with steps o os l)) (Each_from (λ z. (order_on steps o).object < z) (map (λ (r : Order). r.object) (orders steps os)) (λ y i. subst (λ z. z < y) (sym (named_object steps o)) (above y i)), deep)
    go (inr g) deep = subst (λ rs. Rising (map (λ (r : Order). r.object) rs)) (sym (orders_without steps o os g)) deep

orders_has : (steps : List Step) (os : List ℕ) (o : ℕ) → In o os → 1 < several steps o → Has (λ (r : Order). r.object ≡ o) (orders steps os)
unfolding orders
orders_has steps [] o i l = i
orders_has steps (p ∷ os) o i l = go (cases_lt 1 (several steps p)) (λ j. orders_has steps os o j l) i
  where
    go : (1 < several steps p) ⊎ (several steps p ≤ 1) → (In o os → Has (λ (r : Order). r.object ≡ o) (orders steps os)) → In o (p ∷ os) → Has (λ (r : Order). r.object ≡ o) (orders steps (p ∷ os))
    go (inl m) deep (inl e) = subst (λ rs. Has (λ (r : Order). r.object ≡ o) rs) (sym (orders_with steps p os m)) (inl (named_object steps p ∙ sym e))
    go (inl m) deep (inr j) = subst (λ rs. Has (λ (r : Order). r.object ≡ o) rs) (sym (orders_with steps p os m)) (inr (deep j))
    go (inr g) deep (inl e) = absurd (omega (arith, g, l, ap (several steps) e))
    go (inr g) deep (inr j) = subst (λ rs. Has (λ (r : Order). r.object ≡ o) rs) (sym (orders_without steps p os g)) (deep j)

no_members : (t : List Step) → t ≡ [] → length (members t) ≡ 0
unfolding members
no_members t e = rw e refl

several_has : (steps : List Step) (o : ℕ) → 1 < several steps o → In o (objects steps)
unfolding several
several_has steps o l = elim (cases_in o (objects steps)) [ inl i ↦ i | inr n ↦ absurd (omega (arith, l, no_members (trace steps o) (no_trace steps o n))) ]

lists_orders : (steps : List Step) → ListsOrders steps (orders steps (objects steps))
unfolding several
lists_orders steps =
    let os = objects steps in
    let all = orders_of steps os in
    record {
      objects_rise = increasing_from _ (orders_rise steps os (Rising_objects steps));
      orders_named = All_from_Each _ (orders steps os) (Each_weaker _ (λ (r : Order). r.invs ≡ (placing (trace steps r.object)).order) (orders steps os) (λ r h. h.1) all);
      where_several = λ o. (
        λ a. (let r = Has_in (λ (r : Order). r.object ≡ o) (orders steps os) (Has_from_Any (λ (r : Order). r.object ≡ o) (orders steps os) a) in subst (λ p. 2 ≤ several steps p) r.2 (Each_at (IsOf steps os) (orders steps os) r.0 all r.1).2),
        λ l. Any_from_Has (λ (r : Order). r.object ≡ o) (orders steps os) (orders_has steps os o (several_has steps o l) l),
      );
    }

same_orders : (os ps : List Order) → Approved os ≡ Approved ps → os ≡ ps
same_orders os ps e = cc

pub approves_orders : ApprovesOrders
approves_orders steps os e = elim (option_cases (vetoed_object steps)) [
  | inl none ↦ subst (λ l. ListsOrders steps l) (same_orders _ os (sym (approved_none steps none) ∙ e)) (lists_orders steps)
  | inr some ↦ absurd (not_both os _ _ _ (sym e ∙ vetoed_some steps some.0 some.1))
]
