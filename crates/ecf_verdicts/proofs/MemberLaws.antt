-- The invocations of a trace, rising.
use Rattle.std.proofs.Common.{◌≡◌, ℕ, ◌<◌, ◌≤◌, List, [], ◌∷◌, length, ◌⊎◌, inl, inr, refl, sym, subst, arith}
use Rattle.std.proofs.lemmas.Bool.{eq-eqb, ne_eqb, cases_eq, cases_order, lt-ltb, le-ltb}
use Rattle.ecf_lang.specs.declared.run.Step.{Step}
use Rattle.ecf_verdicts.specs.Placing.{without}
use Rattle.ecf_verdicts.specs.Traces.{with_number, members}
use Rattle.ecf_verdicts.specs.BeforeLemmas.{IsBefore, IsBefore_from}
use Rattle.ecf_verdicts.specs.Laws.{MembersAre, BeforeIsOfMembers}
use Rattle.ecf_verdicts.specs.ListLemmas.{Has, In, Each_at, Each_from, Each_weaker, Has_in, Any_from_Has, Has_from_Any, Contains_from_In, In_from_Contains}
use Rattle.ecf_verdicts.specs.RisingLemmas.{Rising, increasing_from}

-- where a number goes in a rising list
pub with_number_cases : (i j : ℕ) (js : List ℕ) (P : List ℕ → Type 0) → (i < j → P (i ∷ j ∷ js)) → (i ≡ j → P (j ∷ js)) → (j < i → P (j ∷ with_number i js)) → P (with_number i (j ∷ js))
unfolding with_number
with_number_cases i j js P less same more = elim (cases_order i j) [
  | inl e ↦ rw (le-ltb i j (omega arith), eq-eqb i j e) (same e)
  | inr (inl h) ↦ rw (lt-ltb i j h) (less h)
  | inr (inr h) ↦ rw (le-ltb i j (omega arith), ne_eqb i j (omega arith)) (more h)
]

pub In_with_number : (k i : ℕ) (js : List ℕ) → In k (with_number i js) → (k ≡ i) ⊎ In k js
unfolding with_number
In_with_number k i [] (inl e) = inl e
In_with_number k i [] (inr h) = absurd h
In_with_number k i (j ∷ js) h = (with_number_cases i j js (λ l. In k l → (k ≡ i) ⊎ In k (j ∷ js))
    (λ _ x. x)
    (λ _ x. inr x)
    (λ _ x. elim x [ inl e ↦ inr (inl e) | inr y ↦ elim (In_with_number k i js y) [ inl e ↦ inl e | inr z ↦ inr (inr z) ] ])) h

pub In_with_number_new : (i : ℕ) (js : List ℕ) → In i (with_number i js)
unfolding with_number
In_with_number_new i [] = inl refl
In_with_number_new i (j ∷ js) = with_number_cases i j js (λ l. In i l) (λ _. inl refl) (λ e. inl e) (λ _. inr (In_with_number_new i js))

pub In_with_number_old : (k i : ℕ) (js : List ℕ) → In k js → In k (with_number i js)
In_with_number_old k i [] h = absurd h
In_with_number_old k i (j ∷ js) h = with_number_cases i j js (λ l. In k l) (λ _. inr h) (λ _. h) (λ _. elim h [ inl e ↦ inl e | inr x ↦ inr (In_with_number_old k i js x) ])

pub In_members : (t : List Step) (s : Step) → In s t → In s.inv (members t)
unfolding members
In_members [] s h = absurd h
In_members (u ∷ rest) s (inl e) = subst (λ x. In x.inv (with_number u.inv (members rest))) (sym e) (In_with_number_new u.inv (members rest))
In_members (u ∷ rest) s (inr h) = In_with_number_old s.inv u.inv (members rest) (In_members rest s h)

pub In_members_of : (t : List Step) (i : ℕ) → In i (members t) → Has (λ s. s.inv ≡ i) t
unfolding members
In_members_of [] i h = h
In_members_of (u ∷ rest) i h = elim (In_with_number i u.inv (members rest) h) [ inl e ↦ inl (sym e) | inr x ↦ inr (In_members_of rest i x) ]

later_member : (us : List Step) (j : ℕ) (Q : Step → Type 0) → Has (λ u. (u.inv ≡ j) × Q u) us → In j (members us)
unfolding members
later_member [] j Q h = h
later_member (u ∷ us) j Q (inl h) = subst (λ x. In x (with_number u.inv (members us))) h.0 (In_with_number_new u.inv (members us))
later_member (u ∷ us) j Q (inr h) = In_with_number_old j u.inv (members us) (later_member us j Q h)

-- both invocations of a "before" have steps
pub IsBefore_members : (t : List Step) (i j : ℕ) → IsBefore t i j → In i (members t) × In j (members t)
unfolding members
IsBefore_members [] i j h = absurd h
IsBefore_members (s ∷ later) i j (inl h) = (subst (λ x. In x (with_number s.inv (members later))) h.0 (In_with_number_new s.inv (members later)), In_with_number_old j s.inv (members later) (later_member later j _ h.1))
IsBefore_members (s ∷ later) i j (inr h) = let r = IsBefore_members later i j h in (In_with_number_old i s.inv (members later) r.0, In_with_number_old j s.inv (members later) r.1)

-- a list without a number is shorter
length_filter : (j : ℕ) (xs : List ℕ) → length (without j xs) ≤ length xs
unfolding without
length_filter j [] = omega arith
length_filter j (x ∷ xs) = elim (cases_eq x j) [
  | inl e ↦ rw (eq-eqb x j e) (omega (arith, length_filter j xs))
  | inr n ↦ rw (ne_eqb x j n) (omega (arith, length_filter j xs))
]

pub length-without : (j : ℕ) (xs : List ℕ) → In j xs → length (without j xs) < length xs
unfolding without
length-without j [] h = absurd h
length-without j (x ∷ xs) h = elim (cases_eq x j) [
  | inl e ↦ rw (eq-eqb x j e) (omega (arith, length_filter j xs))
  | inr n ↦ rw (ne_eqb x j n) (elim h [ inl e ↦ absurd (n (sym e)) | inr k ↦ omega (arith, length-without j xs k) ])
]

pub Rising_with_number : (i : ℕ) (js : List ℕ) → Rising js → Rising (with_number i js)
unfolding with_number
Rising_with_number i [] h = (tt, tt)
Rising_with_number i (j ∷ js) h = with_number_cases i j js Rising
    (λ l. ((l, Each_weaker _ _ js (λ y k. omega (arith, k, l)) h.0), h))
    (λ e. h)
    (λ m. (Each_from _ (with_number i js) (λ y k. elim (In_with_number y i js k) [ inl e ↦ omega (arith, e, m) | inr x ↦ Each_at _ js y h.0 x ]), Rising_with_number i js h.1))

pub Rising_members : (t : List Step) → Rising (members t)
unfolding members
Rising_members [] = tt
Rising_members (s ∷ rest) = Rising_with_number s.inv (members rest) (Rising_members rest)

pub members_are : MembersAre
members_are t = (
  increasing_from (members t) (Rising_members t),
  λ i. (
    λ c. Any_from_Has (λ (s : Step). s.inv ≡ i) t (In_members_of t i (In_from_Contains (members t) i c)),
    λ a. Contains_from_In (members t) i (has t i (Has_from_Any (λ (s : Step). s.inv ≡ i) t a)),
  ),
)
  where
    has : (t : List Step) (i : ℕ) → Has (λ (s : Step). s.inv ≡ i) t → In i (members t)
    has t i h = let r = Has_in (λ (s : Step). s.inv ≡ i) t h in subst (λ x. In x (members t)) r.2 (In_members t r.0 r.1)

pub before_is_of_members : BeforeIsOfMembers
before_is_of_members t i j e =
    let both = IsBefore_members t i j (IsBefore_from t i j e) in
    (Contains_from_In (members t) i both.0, Contains_from_In (members t) j both.1)
