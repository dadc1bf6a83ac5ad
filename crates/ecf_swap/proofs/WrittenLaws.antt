-- The tests of an order that is written out tell what they should.
use Rattle.std.proofs.Common.{◌≡◌, ◌≢◌, ℕ, ◌<◌, Bool, true, not, nat_lt, ◌&&◌, ◌==◌, List, [], ◌∷◌, inl, inr, sym, subst, All, AllPairs, Contains}
use Rattle.std.specs.List.{list_any}
use Rattle.std.proofs.lemmas.Bool.{and_parts, or_cases, both_ways, eq-eqb, eqb-true, not-true, ltb-true}
use Rattle.ecf_lang.specs.declared.run.Step.{Step}
use Rattle.ecf_verdicts.specs.BeforeLemmas.{IsBefore, IsBefore_from}
use Rattle.ecf_verdicts.specs.Conflicts.{conflicts}
use Rattle.ecf_verdicts.specs.Laws.{KeepsBefore}
use Rattle.ecf_verdicts.specs.ListLemmas.{Each, In, Pairs, All_from_Each, Contains_from_In, Each_at, Each_from, Has_from_any, Has_from_in, Has_in, Has_weaker, Pairs_at, any_from_Has}
use Rattle.ecf_swap.specs.Insertion.{place_in}
use Rattle.ecf_swap.specs.WrittenOut.{lists_once, lists_each, stands_before, keeps_each, is_order_of}

pairs_differ : (order : List ℕ) → lists_once order ≡ true → Pairs (λ i j. i ≢ j) order
pairs_differ [] e = tt
pairs_differ (i ∷ is) e =
    let p = and_parts _ _ e in (
      Each_from (λ j. i ≢ j) is (λ j h same. both_ways (list_any (λ j. i == j) is) (not-true _ p.0) (any_from_Has (λ j. i == j) is (Has_from_in (λ j. (i == j) ≡ true) is j h (eq-eqb i j same)))),
      pairs_differ is p.1,
    )

each_listed : (order : List ℕ) (t : List Step) → lists_each order t ≡ true → Each (λ (s : Step). Contains order s.inv) t
each_listed order [] e = tt
each_listed order (s ∷ t) e =
    let p = and_parts _ _ e in (
      Contains_from_In order s.inv (Has_weaker (λ i. (i == s.inv) ≡ true) (λ i. s.inv ≡ i) order (λ i f. sym (eqb-true i s.inv f)) (Has_from_any (λ i. i == s.inv) order p.0)),
      each_listed order t p.1,
    )

each_later : (order : List ℕ) (s : Step) (later : List Step) → stands_before order s later ≡ true → Each (λ u. conflicts s u ≡ true → place_in order s.inv < place_in order u.inv) later
each_later order s [] e = tt
each_later order s (u ∷ later) e =
    let p = and_parts _ _ e in (
      λ f. elim (or_cases _ _ p.0) [
        | inl g ↦ absurd (both_ways (conflicts s u) (not-true _ g) f)
        | inr g ↦ ltb-true (place_in order s.inv) (place_in order u.inv) g
      ],
      each_later order s later p.1,
    )

keeps_is : (order : List ℕ) (t : List Step) → keeps_each order t ≡ true → (i j : ℕ) → IsBefore t i j → place_in order i < place_in order j
keeps_is order [] e i j h = absurd h
keeps_is order (s ∷ later) e i j (inl h) =
    let p = and_parts _ _ e in
    let u = Has_in (λ u. (u.inv ≡ j) × (conflicts s u ≡ true)) later h.1 in
    let less : place_in order s.inv < place_in order u.0.inv = Each_at (λ u. conflicts s u ≡ true → place_in order s.inv < place_in order u.inv) later u.0 (each_later order s later p.0) u.1 u.2.1 in
    subst (λ k. place_in order i < place_in order k) u.2.0 (subst (λ k. place_in order k < place_in order u.0.inv) h.0 less)
keeps_is order (s ∷ later) e i j (inr h) = keeps_is order later (and_parts _ _ e).1 i j h

pub distinct_of : (order : List ℕ) (t : List Step) → is_order_of order t ≡ true → AllPairs (λ i j. i ≢ j) order
distinct_of order t e = λ i j d a b. Pairs_at (λ i j. i ≢ j) order (pairs_differ order (and_parts _ _ e).0) i j d a b

pub listed_of : (order : List ℕ) (t : List Step) → is_order_of order t ≡ true → All (λ (s : Step). Contains order s.inv) t
listed_of order t e = All_from_Each (λ (s : Step). Contains order s.inv) t (each_listed order t (and_parts _ _ (and_parts _ _ e).1).0)

pub keeps_of : (order : List ℕ) (t : List Step) → is_order_of order t ≡ true → KeepsBefore t (place_in order)
keeps_of order t e = λ i j b. keeps_is order t (and_parts _ _ (and_parts _ _ e).1).1 i j (IsBefore_from t i j b)
