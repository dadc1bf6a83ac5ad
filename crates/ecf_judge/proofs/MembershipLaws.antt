-- Who has steps, step by step, and what it says of the members.
use Rattle.std.proofs.Common.{◌≡◌, ℕ, ◌<◌, ◌≤◌, ◌==◌, ◌+◌, List, [], ◌∷◌, ◌++◌, length, take, drop, get_or, ◌⊎◌, inl, inr, Bool, true, false, cond, refl, sym, ap, ◌∙◌, arith}
use Rattle.std.specs.List.{list_all}
use Rattle.std.proofs.lemmas.Bool.{cases_eq, and_parts, eq-eqb, eqb-true, ne_eqb}
use Rattle.std.proofs.lemmas.List.{take_all}
use Rattle.ecf_judge.specs.Membership.{are_of_one, with_member, membership_from, membership}
use Rattle.ecf_judge.specs.declared.membership.Membership.{Membership}
use Rattle.ecf_judge.specs.declared.membership.Membership.TheVariants.{Nobody, Only, Several}
use Rattle.ecf_lang.specs.declared.run.Step.{Step}
use Rattle.ecf_verdicts.specs.Cycles.{is_placed}
use Rattle.ecf_verdicts.specs.Laws.{MembersAre, SingleFree, TestTellsFree}
use Rattle.ecf_verdicts.specs.ListLemmas.{Each, Has, In, Each_at, Has_in, All_from_Each, Any_from_Has, Has_from_Any, Contains_from_In, In_from_Contains}
use Rattle.ecf_verdicts.specs.RisingLemmas.{Rising, rising_from}
use Rattle.ecf_verdicts.specs.Traces.{members, trace}

-- one step more
pub from_next : (m : Membership) (t : List Step) (s : Step) → membership_from m (t ++ s ∷ []) ≡ with_member (membership_from m t) s.inv
unfolding membership_from
from_next m [] s = refl
from_next m (u ∷ t) s = from_next (with_member m u.inv) t s

several_stays : (t : List Step) → membership_from Several t ≡ Several
unfolding membership_from with_member
several_stays [] = refl
several_stays (s ∷ t) = several_stays t

-- after a step of i either all are of i or some isn't
only_cases : (t : List Step) (i : ℕ) → ((membership_from (Only i) t ≡ Only i) × Each (λ s. s.inv ≡ i) t) ⊎ ((membership_from (Only i) t ≡ Several) × Has (λ s. s.inv ≡ i → ⊥) t)
unfolding membership_from with_member
only_cases [] i = inl (refl, tt)
only_cases (s ∷ t) i = elim (cases_eq i s.inv) [
  | inl e ↦ elim (only_cases t i) [
    | inl h ↦ inl (rw (eq-eqb i s.inv e) h.0, (sym e, h.1))
    | inr h ↦ inr (rw (eq-eqb i s.inv e) h.0, inr h.1)
  ]
  | inr n ↦ inr (rw (ne_eqb i s.inv n) (several_stays t), inl (λ e. n (sym e)))
]

-- a trace of nobody has no steps
pub nobody_empty : (t : List Step) → Nobody ≡ membership t → t ≡ []
unfolding membership_from with_member
nobody_empty [] e = refl
nobody_empty (s ∷ t) e = elim (only_cases t s.inv) [ inl h ↦ absurd (apart_only s.inv (e ∙ h.0)) | inr h ↦ absurd (apart_several (e ∙ h.0)) ]
  where
    apart_only : (i : ℕ) → Nobody ≡ Only i → ⊥
    apart_only i f = cc

    apart_several : Nobody ≡ Several → ⊥
    apart_several f = cc

only_several : (i : ℕ) (m : Membership) → m ≡ Only i → m ≡ Several → ⊥
only_several i m e f = cc

-- members that are all one
short : MembersAre → (t : List Step) (i : ℕ) → Each (λ s. s.inv ≡ i) t → length (members t) ≤ 1
short are t i h = go (members t) (rising_from (members t) (are t).0) (λ k j. (let r = Has_in (λ (s : Step). s.inv ≡ k) t (Has_from_Any (λ (s : Step). s.inv ≡ k) t (((are t).1 k).0 (Contains_from_In (members t) k j))) in sym r.2 ∙ Each_at (λ s. s.inv ≡ i) t r.0 h r.1))
  where
    go : (ms : List ℕ) → Rising ms → ((k : ℕ) → In k ms → k ≡ i) → length ms ≤ 1
    go [] r f = omega arith
    go (x ∷ []) r f = omega arith
    go (x ∷ y ∷ ys) r f = absurd (omega (arith, f x (inl refl), f y (inr (inl refl)), r.0.0))

-- two members that differ
two : (ms : List ℕ) (i j : ℕ) → In i ms → In j ms → (i ≡ j → ⊥) → 1 < length ms
two [] i j a b n = absurd a
two (x ∷ []) i j (inl e) (inl f) n = absurd (n (e ∙ sym f))
two (x ∷ []) i j (inl e) (inr b) n = absurd b
two (x ∷ []) i j (inr a) b n = absurd a
two (x ∷ y ∷ ys) i j a b n = omega arith

has_member : MembersAre → (t : List Step) (i : ℕ) → Has (λ s. s.inv ≡ i) t → In i (members t)
has_member are t i h = In_from_Contains (members t) i (((are t).1 i).1 (Any_from_Has (λ (s : Step). s.inv ≡ i) t h))

pub several_members : MembersAre → (t : List Step) → membership t ≡ Several → 1 < length (members t)
unfolding membership_from with_member
several_members are [] e = absurd (apart e)
  where
    apart : Nobody ≡ Several → ⊥
    apart f = cc
several_members are (s ∷ t) e = elim (only_cases t s.inv) [
  | inl h ↦ absurd (only_several s.inv _ h.0 e)
  | inr h ↦ (let r = Has_in (λ (u : Step). u.inv ≡ s.inv → ⊥) t h.1 in
      two (members (s ∷ t)) s.inv r.0.inv (has_member are (s ∷ t) s.inv (inl refl)) (has_member are (s ∷ t) r.0.inv (inr (has t r.0 r.1))) (λ f. r.2 (sym f)))
]
  where
    has : (us : List Step) (u : Step) → In u us → Has (λ (v : Step). v.inv ≡ u.inv) us
    has [] u i = i
    has (v ∷ us) u (inl f) = inl (ap (λ (w : Step). w.inv) (sym f))
    has (v ∷ us) u (inr i) = inr (has us u i)

pub few_members : MembersAre → (t : List Step) → (membership t ≡ Several → ⊥) → length (members t) ≤ 1
unfolding membership_from with_member
few_members are [] n = short are [] 0 tt
few_members are (s ∷ t) n = elim (only_cases t s.inv) [
  | inl h ↦ short are (s ∷ t) s.inv (refl, h.1)
  | inr h ↦ absurd (n h.0)
]

pub few_placed : SingleFree → TestTellsFree → (t : List Step) → (membership t ≡ Several → ⊥) → is_placed t ≡ true
unfolding membership_from with_member
few_placed single tells [] n = (tells []).0.1 (single [] 0 (All_from_Each _ [] tt))
few_placed single tells (s ∷ t) n = elim (only_cases t s.inv) [
  | inl h ↦ (tells (s ∷ t)).0.1 (single (s ∷ t) s.inv (All_from_Each (λ (u : Step). u.inv ≡ s.inv) (s ∷ t) (refl, h.1)))
  | inr h ↦ absurd (n h.0)
]

-- nobody, or i alone
abbrev FewAre : ℕ → Membership → Type 0
FewAre i m = (m ≡ Nobody) ⊎ (m ≡ Only i)

few_with : (i : ℕ) (m : Membership) (j : ℕ) → j ≡ i → FewAre i m → FewAre i (with_member m j)
unfolding with_member
few_with i m j e (inl h) = inr (rw h (ap Only e))
few_with i m j e (inr h) = inr (rw (h, eq-eqb i j (sym e)) refl)

few_all : (steps : List Step) (i o : ℕ) (m : Membership) → list_all (λ (s : Step). s.inv == i) steps ≡ true → FewAre i m → FewAre i (membership_from m (trace steps o))
unfolding trace membership_from
few_all [] i o m e h = h
few_all (s ∷ rest) i o m e h =
    let p = and_parts _ _ e in
    go (s.cell.object == o) (few_all rest i o m p.1 h) (few_all rest i o (with_member m s.inv) p.1 (few_with i m s.inv (eqb-true s.inv i p.0) h))
  where
    go : (b : Bool) → FewAre i (membership_from m (trace rest o)) → FewAre i (membership_from (with_member m s.inv) (trace rest o)) → FewAre i (membership_from m (cond b (s ∷ trace rest o) (trace rest o)))
    go true without with_it = with_it
    go false without with_it = without

pub nobody_several : (m : Membership) → m ≡ Nobody → m ≡ Several → ⊥
nobody_several m e f = cc

-- where all steps are of one invocation no object has several
pub all_one : (steps : List Step) (i : ℕ) → list_all (λ (s : Step). s.inv == i) steps ≡ true → (o : ℕ) → membership (trace steps o) ≡ Several → ⊥
all_one steps i h o e = elim (few_all steps i o Nobody h (inl refl)) [
  | inl f ↦ nobody_several _ f e
  | inr f ↦ only_several i _ f e
]

-- none, and a first with the rest
pub one_none : (steps : List Step) → length steps < 1 → true ≡ are_of_one steps
unfolding are_of_one
one_none [] h = refl
one_none (s ∷ rest) h = absurd (omega (arith, h))

pub one_first : (steps : List Step) (n : ℕ) (z : Step) → 1 ≤ length steps → length steps ≤ n + 1 →
    list_all (λ (u : Step). u.inv == (get_or steps 0 z).inv) (take n (drop 1 steps)) ≡ are_of_one steps
unfolding are_of_one
one_first [] n z h g = absurd (omega (arith, h))
one_first (s ∷ rest) n z h g = ap (list_all (λ (u : Step). u.inv == s.inv)) (take_all n rest (omega (arith, g)))

-- then no object has several
pub one_few : (steps : List Step) → are_of_one steps ≡ true → (o : ℕ) → membership (trace steps o) ≡ Several → ⊥
unfolding are_of_one
one_few [] h o e = all_one [] 0 refl o e
one_few (s ∷ rest) h o e = all_one (s ∷ rest) s.inv (rw (eq-eqb s.inv s.inv refl) h) o e

-- a member once more tells nothing new
pub again_only : (m : Membership) (i inv : ℕ) → m ≡ Only i → (i == inv) ≡ true → with_member m inv ≡ m
unfolding with_member
again_only m i inv e same = rw (e, same) refl

pub again_several : (m : Membership) (inv : ℕ) → m ≡ Several → with_member m inv ≡ m
unfolding with_member
again_several m inv e = rw e refl
