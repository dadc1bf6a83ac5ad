-- What the placing lists, and what it leaves.
use Rattle.std.proofs.Common.{◌≡◌, ℕ, suc, zero, ◌<◌, ◌≤◌, ◌≢◌, true, List, [], ◌∷◌, length, get_or, Contains, Some, None, ◌⊎◌, inl, inr, sym, subst, arith}
use Rattle.std.proofs.lemmas.Bool.{cases_eq}
use Rattle.ecf_lang.specs.declared.run.Step.{Step}
use Rattle.ecf_verdicts.specs.Before.{before}
use Rattle.ecf_verdicts.specs.Conflicts.{conflicts}
use Rattle.ecf_verdicts.specs.Laws.{ConflictsInOrder, BeforeExactlyWhere, PlacesMembers, PlacedKeepsBefore, MembersPlacedOrRest, RestIsStuck}
use Rattle.ecf_verdicts.specs.Placing.{next_placed, without, placing_from, placing}
use Rattle.ecf_verdicts.specs.Traces.{members}
use Rattle.ecf_verdicts.specs.BeforeLemmas.{IsBefore, IsBefore_from, before_from}
use Rattle.ecf_verdicts.proofs.FreeLaws.{placed_or_rest}
use Rattle.ecf_verdicts.specs.ListLemmas.{In, Pairs, Each_from, Pairs_at, All_from_Each, Contains_from_In, Has_at, Has_from_at, option_cases}
use Rattle.ecf_verdicts.proofs.MemberLaws.{IsBefore_members, length-without}
use Rattle.ecf_verdicts.specs.PlacingLemmas.{In_without, In_without_from, next_some, next_none, placing_none, placing_some}

-- "before" by places
in_order : (t : List Step) (i j : ℕ) → IsBefore t i j → ConflictsInOrder t i j
in_order [] i j h = absurd h
in_order (s ∷ later) i j (inl h) = let r = Has_at _ later h.1 in (0, suc r.0, omega arith, omega (arith, r.1), λ d. (h.0, (r.2 d).0, (r.2 d).1))
in_order (s ∷ later) i j (inr h) = let r = in_order later i j h in (suc r.0, suc r.1, omega (arith, r.2), omega (arith, r.3), r.4)

from_order : (t : List Step) (i j p q : ℕ) → p < q → q < length t → ((d : Step) → ((get_or t p d).inv ≡ i) × ((get_or t q d).inv ≡ j) × (conflicts (get_or t p d) (get_or t q d) ≡ true)) → IsBefore t i j
from_order [] i j p q a b f = absurd (omega arith)
from_order (s ∷ later) i j p zero a b f = absurd (omega arith)
from_order (s ∷ later) i j zero (suc q) a b f = inl ((f s).0, Has_from_at _ later q s (omega arith) ((f s).1, (f s).2))
from_order (s ∷ later) i j (suc p) (suc q) a b f = inr (from_order later i j p q (omega arith) (omega arith) f)

pub before_exactly_where : BeforeExactlyWhere
before_exactly_where t i j = (λ e. in_order t i j (IsBefore_from t i j e), λ c. before_from t i j (from_order t i j c.0 c.1 c.2 c.3 c.4))

-- the placed ones were unplaced
pub placed_in : (t : List Step) (n : ℕ) (u : List ℕ) (i : ℕ) → In i (placing_from t n u).order → In i u
unfolding placing_from
placed_in t zero u i h = absurd h
placed_in t (suc n) u i h = go (option_cases (next_placed t u)) (λ m. placed_in t n (without m u) i)
  where
    go : (next_placed t u ≡ None) ⊎ ((m : ℕ) × (next_placed t u ≡ Some m)) → ((m : ℕ) → In i (placing_from t n (without m u)).order → In i (without m u)) → In i u
    go (inl none) deep = absurd (subst (λ p. In i p.order) (placing_none t n u none) h)
    go (inr some) deep =
        let m = some.0 in
        elim (subst (λ p. In i p.order) (placing_some t n u m some.1) h) [
          | inl e ↦ subst (λ x. In x u) (sym e) (next_some t u m some.1).0
          | inr k ↦ (In_without m u i (deep m k)).0
        ]

pub placed_distinct : (t : List Step) (n : ℕ) (u : List ℕ) → Pairs (λ i j. i ≢ j) (placing_from t n u).order
unfolding placing_from
placed_distinct t zero u = tt
placed_distinct t (suc n) u = go (option_cases (next_placed t u)) (λ m. placed_distinct t n (without m u))
  where
    go : (next_placed t u ≡ None) ⊎ ((m : ℕ) × (next_placed t u ≡ Some m)) → ((m : ℕ) → Pairs (λ i j. i ≢ j) (placing_from t n (without m u)).order) → Pairs (λ i j. i ≢ j) (placing_from t (suc n) u).order
    go (inl none) deep = subst (λ p. Pairs (λ i j. i ≢ j) p.order) (sym (placing_none t n u none)) tt
    go (inr some) deep =
        let m = some.0 in
        subst (λ p. Pairs (λ i j. i ≢ j) p.order) (sym (placing_some t n u m some.1))
        (Each_from (λ j. m ≢ j) (placing_from t n (without m u)).order (λ j h e. (In_without m u j (placed_in t n (without m u) j h)).1 (sym e)), deep m)

pub places_members : PlacesMembers
unfolding placing
places_members t =
    let n = length (members t) in
    let order = (placing_from t n (members t)).order in (
      Pairs_at (λ i j. i ≢ j) order (placed_distinct t n (members t)),
      All_from_Each (Contains (members t)) order (Each_from (Contains (members t)) order (λ i h. Contains_from_In (members t) i (placed_in t n (members t) i h))),
    )

-- what is before a placed one is placed earlier
abbrev KeptIn : List Step → List ℕ → List ℕ → Type 0
KeptIn t u l = (k i : ℕ) → In i u → k < length l → before t i (get_or l k 0) ≡ true → (m : ℕ) × (m < k) × (get_or l m 0 ≡ i)

kept_cons : (t : List Step) (u : List ℕ) (j : ℕ) (l : List ℕ) → ((i : ℕ) → In i u → before t i j ≡ true → ⊥) → KeptIn t (without j u) l → KeptIn t u (j ∷ l)
kept_cons t u j l none deep zero i h b e = absurd (none i h e)
kept_cons t u j l none deep (suc k) i h b e = elim (cases_eq i j) [
  | inl same ↦ (0, omega arith, sym same)
  | inr apart ↦ let r = deep k i (In_without_from j u i h apart) (omega (arith, b)) e in (suc r.0, omega (arith, r.1), r.2)
]

before_kept : (t : List Step) (n : ℕ) (u : List ℕ) → KeptIn t u (placing_from t n u).order
unfolding placing_from
before_kept t zero u = λ k i h b e. absurd (omega (arith, b))
before_kept t (suc n) u = go (option_cases (next_placed t u)) (λ m. before_kept t n (without m u))
  where
    go : (next_placed t u ≡ None) ⊎ ((m : ℕ) × (next_placed t u ≡ Some m)) → ((m : ℕ) → KeptIn t (without m u) (placing_from t n (without m u)).order) → KeptIn t u (placing_from t (suc n) u).order
    go (inl none) deep = subst (λ p. KeptIn t u p.order) (sym (placing_none t n u none)) (λ k i h b e. absurd (omega (arith, b)))
    go (inr some) deep =
        let m = some.0 in
        subst (λ p. KeptIn t u p.order) (sym (placing_some t n u m some.1)) (kept_cons t u m (placing_from t n (without m u)).order (next_some t u m some.1).1 (deep m))

pub placed_keeps_before : PlacedKeepsBefore
unfolding placing
placed_keeps_before t k i b e = before_kept t (length (members t)) (members t) k i (IsBefore_members t i _ (IsBefore_from t i _ e)).0 b e

pub members_placed_or_rest : MembersPlacedOrRest
unfolding placing
members_placed_or_rest t =
    let p = placing_from t (length (members t)) (members t) in
    All_from_Each _ (members t) (Each_from (λ i. Contains p.order i ⊎ Contains p.rest i) (members t) (λ i h. elim (placed_or_rest t (length (members t)) (members t) i h) [
      | inl a ↦ inl (Contains_from_In p.order i a)
      | inr b ↦ inr (Contains_from_In p.rest i b)
    ]))

-- each of the rest has one of the rest before it
abbrev pub Stuck : List Step → List ℕ → Type 0
Stuck t r = (j : ℕ) → In j r → (i : ℕ) × In i r × (before t i j ≡ true)

none_left : (u : List ℕ) (j : ℕ) → length u ≤ 0 → In j u → ⊥
none_left [] j h k = k
none_left (x ∷ xs) j h k = omega (arith, h)

stuck : (t : List Step) (n : ℕ) (u : List ℕ) → length u ≤ n → Stuck t (placing_from t n u).rest
unfolding placing_from
stuck t zero u h = λ j k. absurd (none_left u j h k)
stuck t (suc n) u h = go (option_cases (next_placed t u)) (λ m. stuck t n (without m u))
  where
    go : (next_placed t u ≡ None) ⊎ ((m : ℕ) × (next_placed t u ≡ Some m)) → ((m : ℕ) → length (without m u) ≤ n → Stuck t (placing_from t n (without m u)).rest) → Stuck t (placing_from t (suc n) u).rest
    go (inl none) deep = subst (λ p. Stuck t p.rest) (sym (placing_none t n u none)) (next_none t u none)
    go (inr some) deep =
        let m = some.0 in
        subst (λ p. Stuck t p.rest) (sym (placing_some t n u m some.1)) (deep m (omega (arith, h, length-without m u (next_some t u m some.1).0)))

pub rest_stuck : (t : List Step) → Stuck t (placing t).rest
unfolding placing
rest_stuck t = stuck t (length (members t)) (members t) (omega arith)

pub rest_is_stuck : RestIsStuck
rest_is_stuck t = All_from_Each _ (placing t).rest (Each_from (λ j. (i : ℕ) × Contains (placing t).rest i × (before t i j ≡ true)) (placing t).rest (λ j h. let r = rest_stuck t j h in (r.0, Contains_from_In (placing t).rest r.0 r.1, r.2)))
