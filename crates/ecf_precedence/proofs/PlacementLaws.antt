-- The placing over a relation, and that it depends on reachability alone.
use Rattle.std.proofs.Common.{◌≡◌, ℕ, zero, suc, Bool, true, not, cond, eqb, ◌==◌, List, [], ◌∷◌, length, find, Some, None, ◌⊎◌, inl, inr, refl, sym, ap, ◌∙◌, subst}
use Rattle.std.proofs.lemmas.Bool.{both_ways, eq-eqb, ne_eqb, not-true}
use Rattle.ecf_lang.specs.declared.run.Step.{Step}
use Rattle.ecf_verdicts.specs.Before.{before}
use Rattle.ecf_verdicts.specs.ListLemmas.{In, Has_in, Has_from_in, Has_from_any, any_from_Has, In_from_Contains, In_filter, In_filter_from, find_some, option_cases}
use Rattle.ecf_verdicts.specs.Placing.{Placing, waits as waits_in, next_placed, without as apart, placing_from, placing}
use Rattle.ecf_verdicts.specs.PlacingLemmas.{placing_none, placing_some}
use Rattle.ecf_verdicts.specs.Traces.{members}
use Rattle.ecf_graph.specs.Paths.{Reaches, one, more, SameReach}
use Rattle.ecf_graph.specs.Placement.{Placement, waits, next_of, without, placement_from, placement_of}
use Rattle.ecf_graph.specs.PlacementLemmas.{placement_none, placement_some}
use Rattle.ecf_precedence.specs.EndLemmas.{same_test}
use Rattle.ecf_precedence.specs.Laws.{PlacingIsPlacement, PlacementByReach}

-- both take the same numbers out, and the same one next
apart_is : (j : ℕ) (u : List ℕ) → apart j u ≡ without j u
unfolding apart without
apart_is j u = refl

next_is : (t : List Step) (u : List ℕ) → next_placed t u ≡ next_of (before t) u
unfolding next_placed next_of waits_in waits
next_is t u = refl

-- the two placings agree
abbrev Agree : List Step → ℕ → List ℕ → Type 0
Agree t n u = ((placing_from t n u).order ≡ (placement_from (before t) n u).order) × ((placing_from t n u).rest ≡ (placement_from (before t) n u).rest)

agree : (t : List Step) (n : ℕ) (u : List ℕ) → Agree t n u
unfolding placing_from placement_from
agree t zero u = (refl, refl)
agree t (suc n) u = go (option_cases (next_of (before t) u)) (λ j. agree t n (without j u))
  where
    go : (next_of (before t) u ≡ None) ⊎ ((j : ℕ) × (next_of (before t) u ≡ Some j)) → ((j : ℕ) → Agree t n (without j u)) → Agree t (suc n) u
    go (inl e) deep =
        let a = placing_none t n u (next_is t u ∙ e) in
        let b = placement_none (before t) n u e in
        (ap (λ (p : Placing). p.order) a ∙ sym (ap (λ (p : Placement). p.order) b), ap (λ (p : Placing). p.rest) a ∙ sym (ap (λ (p : Placement). p.rest) b))
    go (inr (j, e)) deep =
        let a = placing_some t n u j (next_is t u ∙ e) in
        let b = placement_some (before t) n u j e in
        let later = subst (λ v. ((placing_from t n v).order ≡ (placement_from (before t) n (without j u)).order) × ((placing_from t n v).rest ≡ (placement_from (before t) n (without j u)).rest)) (sym (apart_is j u)) (deep j) in
        (ap (λ (p : Placing). p.order) a ∙ (ap (λ l. j ∷ l) later.0 ∙ sym (ap (λ (p : Placement). p.order) b)), ap (λ (p : Placing). p.rest) a ∙ (later.1 ∙ sym (ap (λ (p : Placement). p.rest) b)))

pub placing_is_placement : PlacingIsPlacement
unfolding placing placement_of
placing_is_placement t = agree t (length (members t)) (members t)

-- a list without a number
In_without : (j : ℕ) (xs : List ℕ) (i : ℕ) → In i (without j xs) → In i xs × (i ≡ j → ⊥)
unfolding without
In_without j xs i h = let r = In_filter (λ k. not (k == j)) xs i h in (r.0, λ e. both_ways (eqb i j) (not-true _ r.1) (eq-eqb i j e))

In_without_from : (j : ℕ) (xs : List ℕ) (i : ℕ) → In i xs → (i ≡ j → ⊥) → In i (without j xs)
unfolding without
In_without_from j xs i h n = In_filter_from (λ k. not (k == j)) xs i h (ap not (ne_eqb i j n))

-- what waits among the unplaced, as a fact
waits_from : (r : ℕ → ℕ → Bool) (u : List ℕ) (j : ℕ) → waits r u j ≡ true → (i : ℕ) × In i u × (r i j ≡ true)
unfolding waits
waits_from r u j e = Has_in (λ i. r i j ≡ true) u (Has_from_any (λ i. r i j) u e)

waits_to : (r : ℕ → ℕ → Bool) (u : List ℕ) (i j : ℕ) → In i u → r i j ≡ true → waits r u j ≡ true
unfolding waits
waits_to r u i j h e = any_from_Has (λ k. r k j) u (Has_from_in (λ k. r k j ≡ true) u i h e)

-- what an unplaced one is before is unplaced
abbrev pub Upward : (ℕ → ℕ → Bool) → List ℕ → Type 0
Upward r u = (i j : ℕ) → In i u → r i j ≡ true → In j u

-- along a path from an unplaced one the last pair begins with an unplaced one
waits_path : (r : ℕ → ℕ → Bool) (u : List ℕ) → Upward r u → (i j : ℕ) → In i u → Reaches r i j → waits r u j ≡ true
waits_path r u up i j h (one e) = waits_to r u i j h e
waits_path r u up i j h (more {j = k} e p) = waits_path r u up k j (up i k h e) p

same_waits : (r q : ℕ → ℕ → Bool) (u : List ℕ) → SameReach r q → Upward r u → Upward q u → (j : ℕ) → waits r u j ≡ waits q u j
same_waits r q u s up uq j = same_test _ _
    (λ e. let w = waits_from r u j e in waits_path q u uq w.0 j w.1 (s.there _ _ (one w.2)))
    (λ e. let w = waits_from q u j e in waits_path r u up w.0 j w.1 (s.back _ _ (one w.2)))

find_same : (p q : ℕ → Bool) (xs : List ℕ) → ((x : ℕ) → p x ≡ q x) → find p xs ≡ find q xs
find_same p q [] e = refl
find_same p q (x ∷ xs) e = go (p x) (q x) (e x) (find_same p q xs e)
  where
    go : (a b : Bool) → a ≡ b → find p xs ≡ find q xs → cond a (Some x) (find p xs) ≡ cond b (Some x) (find q xs)
    go a b f g = rw (f, g) refl

same_next : (r q : ℕ → ℕ → Bool) (u : List ℕ) → SameReach r q → Upward r u → Upward q u → next_of r u ≡ next_of q u
unfolding next_of
same_next r q u s up uq = find_same _ _ u (λ j. ap not (same_waits r q u s up uq j))

-- the placed one has nothing unplaced before it, so the others stay closed upward
up_without : (r : ℕ → ℕ → Bool) (u : List ℕ) (m : ℕ) → next_of r u ≡ Some m → Upward r u → Upward r (without m u)
unfolding next_of
up_without r u m e up i j h b =
    let p = In_without m u i h in
    let f = find_some (λ k. not (waits r u k)) u m e in
    In_without_from m u j (up i j p.0 b) (λ same. both_ways _ (not-true _ f.1) (waits_to r u i m p.0 (subst (λ x. r i x ≡ true) same b)))

same_place : (r q : ℕ → ℕ → Bool) (n : ℕ) (u : List ℕ) → SameReach r q → Upward r u → Upward q u → placement_from r n u ≡ placement_from q n u
unfolding placement_from
same_place r q zero u s up uq = refl
same_place r q (suc n) u s up uq = go (option_cases (next_of r u)) (λ m a b. same_place r q n (without m u) s a b)
  where
    same : next_of r u ≡ next_of q u
    same = same_next r q u s up uq

    go : (next_of r u ≡ None) ⊎ ((m : ℕ) × (next_of r u ≡ Some m)) → ((m : ℕ) → Upward r (without m u) → Upward q (without m u) → placement_from r n (without m u) ≡ placement_from q n (without m u)) → placement_from r (suc n) u ≡ placement_from q (suc n) u
    go (inl e) deep = placement_none r n u e ∙ sym (placement_none q n u (sym same ∙ e))
    go (inr (m, e)) deep =
        let f : next_of q u ≡ Some m = sym same ∙ e in
        placement_some r n u m e ∙ (ap (λ (p : Placement). record { order = m ∷ p.order; rest = p.rest }) (deep m (up_without r u m e up) (up_without q u m f uq)) ∙ sym (placement_some q n u m f))

pub placement_by_reach : PlacementByReach
unfolding placement_of
placement_by_reach r q ms a b s = same_place r q (length ms) ms s (λ i j h e. In_from_Contains ms j (a.second i j e)) (λ i j h e. In_from_Contains ms j (b.second i j e))
