-- Steps of one invocation are approved.
use Rattle.std.proofs.Common.{◌≡◌, ℕ, ◌≤◌, Bool, false, not, List, [], ◌∷◌, length, find, Some, None, ◌⊎◌, inl, inr, refl, ap, ◌∙◌, arith}
use Rattle.std.proofs.lemmas.Bool.{eq-eqb, le-ltb}
use Rattle.ecf_lang.specs.declared.run.Step.{Step}
use Rattle.ecf_verdicts.specs.Laws.{SingleApproved}
use Rattle.ecf_verdicts.specs.Placing.{waits, next_placed, without, placing_from, placing}
use Rattle.ecf_verdicts.specs.Traces.{trace, with_number, members, objects}
use Rattle.ecf_verdicts.specs.Verdicts.{Approved, verdict, orders, vetoed_object}
use Rattle.ecf_verdicts.specs.BeforeLemmas.{before_self}
use Rattle.ecf_verdicts.specs.PlacingLemmas.{placing_some, is_placed_from}
use Rattle.ecf_verdicts.specs.ListLemmas.{Each, Each_from_all, Each_filter}

pub members_of_one : (t : List Step) (i : ℕ) → Each (λ s. s.inv ≡ i) t → (members t ≡ []) ⊎ (members t ≡ i ∷ [])
unfolding members with_number
members_of_one [] i h = inl refl
members_of_one (s ∷ rest) i h = elim (members_of_one rest i h.1) [
  | inl e ↦ inr (rw (e, h.0) refl)
  | inr e ↦ inr (rw (e, h.0, le-ltb i i (omega arith), eq-eqb i i refl) refl)
]

rest_of_none : (t : List Step) → members t ≡ [] → (placing t).rest ≡ []
unfolding placing placing_from
rest_of_none t e = rw e refl

next_of_one : (t : List Step) (i : ℕ) → next_placed t (i ∷ []) ≡ Some i
unfolding next_placed waits
next_of_one t i = rw (before_self t i) refl

without_one : (i : ℕ) → without i (i ∷ []) ≡ []
unfolding without
without_one i = rw (eq-eqb i i refl) refl

rest_of_one : (t : List Step) (i : ℕ) → members t ≡ i ∷ [] → (placing t).rest ≡ []
unfolding placing placing_from
rest_of_one t i e = rw e (ap (λ p. p.rest) (placing_some t 0 (i ∷ []) i (next_of_one t i)) ∙ ap (λ u. (placing_from t 0 u).rest) (without_one i))

pub single_placed : (t : List Step) (i : ℕ) → Each (λ s. s.inv ≡ i) t → (placing t).rest ≡ []
single_placed t i h = elim (members_of_one t i h) [ inl e ↦ rest_of_none t e | inr e ↦ rest_of_one t i e ]

find_none : {X : Type 0} (p : X → Bool) (xs : List X) → ((x : X) → p x ≡ false) → find p xs ≡ None
find_none p [] h = refl
find_none p (x ∷ xs) h = rw (h x) (find_none p xs h)

short : (t : List Step) (i : ℕ) → Each (λ s. s.inv ≡ i) t → length (members t) ≤ 1
short t i h = elim (members_of_one t i h) [ inl e ↦ rw e (omega arith) | inr e ↦ rw e (omega arith) ]

no_orders : (steps : List Step) (os : List ℕ) → ((o : ℕ) → length (members (trace steps o)) ≤ 1) → orders steps os ≡ []
unfolding orders
no_orders steps [] h = refl
no_orders steps (o ∷ os) h = rw (le-ltb 1 (length (members (trace steps o))) (h o)) (no_orders steps os h)

one_in_trace : (steps : List Step) (i o : ℕ) → Each (λ s. s.inv ≡ i) steps → Each (λ s. s.inv ≡ i) (trace steps o)
unfolding trace
one_in_trace steps i o h = Each_filter _ _ steps h

none_vetoed : (steps : List Step) → ((o : ℕ) → (placing (trace steps o)).rest ≡ []) → vetoed_object steps ≡ None
unfolding vetoed_object
none_vetoed steps h = find_none _ (objects steps) (λ o. ap not (is_placed_from (trace steps o) (h o)))

approved_from : (steps : List Step) → vetoed_object steps ≡ None → verdict steps ≡ Approved (orders steps (objects steps))
unfolding verdict
approved_from steps e = rw (e, verdict) refl

pub single_approved : SingleApproved
single_approved steps i all =
    let h = Each_from_all (λ s. s.inv ≡ i) steps all in
    approved_from steps (none_vetoed steps (λ o. single_placed (trace steps o) i (one_in_trace steps i o h)))
    ∙ ap Approved (no_orders steps (objects steps) (λ o. short (trace steps o) i (one_in_trace steps i o h)))
