-- A trace is free exactly where the placing leaves no rest.
use Rattle.std.proofs.Common.{◌≡◌, ℕ, suc, zero, ◌<◌, ◌≤◌, true, List, [], ◌∷◌, map, length, get_or, Some, None, ◌⊎◌, inl, inr, refl, sym, ap, ◌∙◌, subst, arith}
use Rattle.std.proofs.lemmas.Bool.{cases_eq}
use Rattle.ecf_lang.specs.declared.run.Step.{Step}
use Rattle.ecf_verdicts.specs.Before.{before}
use Rattle.ecf_verdicts.specs.Free.{IsTogether, Free}
use Rattle.ecf_verdicts.specs.Laws.{FreeExactlyWherePlaced, FreeExactlyWhereOrdered, KeepsBefore, SingleFree}
use Rattle.ecf_verdicts.specs.Placing.{next_placed, without, placing_from, placing}
use Rattle.ecf_verdicts.specs.Traces.{inv_at, members}
use Rattle.ecf_verdicts.proofs.AlikeLaws.{swaps_alike}
use Rattle.ecf_verdicts.specs.BeforeLemmas.{IsBefore, IsBefore_from, IsBefore_differ}
use Rattle.ecf_verdicts.specs.ListLemmas.{In, Each_from_all, Has_at, option_cases}
use Rattle.ecf_verdicts.proofs.MemberLaws.{In_members, IsBefore_members, length-without}
use Rattle.ecf_verdicts.specs.PlacingLemmas.{In_without_from, next_some, next_none, placing_none, placing_some}
use Rattle.ecf_verdicts.proofs.RankLaws.{rank, rank_here, rank_there, rank_injective}
use Rattle.ecf_verdicts.proofs.SingleLaws.{single_placed}
use Rattle.ecf_verdicts.proofs.SortingLaws.{inv_read, Keeps_from, sort, together_from}

no_member : (xs : List ℕ) (i : ℕ) → xs ≡ [] → In i xs → ⊥
no_member xs i e h = subst (λ l. In i l) e h

-- what is before what keeps its rank in the list of the placed, where all are placed
pub ranks_keep : (t : List Step) (n : ℕ) (u : List ℕ) → (placing_from t n u).rest ≡ [] → (i j : ℕ) → In i u → In j u → before t i j ≡ true → rank (placing_from t n u).order i < rank (placing_from t n u).order j
unfolding placing_from
ranks_keep t zero u e i j h k b = absurd (no_member u i e h)
ranks_keep t (suc n) u e i j h k b = go (option_cases (next_placed t u)) (λ m f. ranks_keep t n (without m u) f i j)
  where
    go : (next_placed t u ≡ None) ⊎ ((m : ℕ) × (next_placed t u ≡ Some m)) → ((m : ℕ) → (placing_from t n (without m u)).rest ≡ [] → In i (without m u) → In j (without m u) → before t i j ≡ true → rank (placing_from t n (without m u)).order i < rank (placing_from t n (without m u)).order j) → rank (placing_from t (suc n) u).order i < rank (placing_from t (suc n) u).order j
    go (inl none) deep = absurd (no_member u i (ap (λ p. p.rest) (sym (placing_none t n u none)) ∙ e) h)
    go (inr some) deep =
        let m = some.0 in
        let is = placing_some t n u m some.1 in
        let rest : (placing_from t n (without m u)).rest ≡ [] = ap (λ p. p.rest) (sym is) ∙ e in
        let other : (j ≡ m → ⊥) = λ same. (next_some t u m some.1).1 i h (subst (λ x. before t i x ≡ true) same b) in
        let j_there = rank_there j m (placing_from t n (without m u)).order other in
        let goal : rank (m ∷ (placing_from t n (without m u)).order) i < rank (m ∷ (placing_from t n (without m u)).order) j = elim (cases_eq i m) [
          | inl same ↦ omega (arith, rank_here i m (placing_from t n (without m u)).order same, j_there)
          | inr apart ↦ omega (arith, rank_there i m (placing_from t n (without m u)).order apart, j_there, deep m rest (In_without_from m u i h apart) (In_without_from m u j k other) b)
        ] in
        subst (λ p. rank p.order i < rank p.order j) (sym is) goal

-- each is placed, or in the rest
pub placed_or_rest : (t : List Step) (n : ℕ) (u : List ℕ) (i : ℕ) → In i u → In i (placing_from t n u).order ⊎ In i (placing_from t n u).rest
unfolding placing_from
placed_or_rest t zero u i h = inr h
placed_or_rest t (suc n) u i h = go (option_cases (next_placed t u)) (λ m. placed_or_rest t n (without m u) i)
  where
    go : (next_placed t u ≡ None) ⊎ ((m : ℕ) × (next_placed t u ≡ Some m)) → ((m : ℕ) → In i (without m u) → In i (placing_from t n (without m u)).order ⊎ In i (placing_from t n (without m u)).rest) → In i (placing_from t (suc n) u).order ⊎ In i (placing_from t (suc n) u).rest
    go (inl none) deep = inr (subst (λ p. In i p.rest) (sym (placing_none t n u none)) h)
    go (inr some) deep =
        let m = some.0 in
        subst (λ p. In i p.order ⊎ In i p.rest) (sym (placing_some t n u m some.1)) (elim (cases_eq i m) [
          | inl same ↦ inl (inl same)
          | inr apart ↦ elim (deep m (In_without_from m u i h apart)) [ inl a ↦ inl (inr a) | inr b ↦ inr b ]
        ])

pub free_from_placed : (t : List Step) → (placing t).rest ≡ [] → Free t
unfolding placing
free_from_placed t e =
    let n = length (members t) in
    let order = (placing_from t n (members t)).order in
    let keeps : ((i j : ℕ) → before t i j ≡ true → rank order i < rank order j) = λ i j b.
    let m = IsBefore_members t i j (IsBefore_from t i j b) in
    ranks_keep t n (members t) e i j m.0 m.1 b in
    let sorted = sort (rank order) t (Keeps_from (rank order) t keeps) in
    let placed : ((x : Step) → In x t → In x.inv order) = λ x h. elim (placed_or_rest t n (members t) x.inv (In_members t x h)) [ inl a ↦ a | inr b ↦ absurd (no_member _ _ e b) ] in
    record {
      places = sorted.places;
      result = sorted.result;
      swaps_to_result = sorted.swaps_to_result;
      is_together = together_from (rank order) sorted.result (λ x y h k r. rank_injective order x.inv y.inv (placed x (sorted.among x h)) (placed y (sorted.among y k)) r) sorted.sorted;
    }

-- the places of the two steps of a "before"
IsBefore_at : (t : List Step) (i j : ℕ) → IsBefore t i j → (p : ℕ) × (q : ℕ) × (p < q) × (q < length t) × ((d : Step) → (get_or t p d).inv ≡ i) × ((d : Step) → (get_or t q d).inv ≡ j)
IsBefore_at [] i j h = absurd h
IsBefore_at (s ∷ later) i j (inl h) = let r = Has_at _ later h.1 in (0, suc r.0, omega arith, omega (arith, r.1), λ d. h.0, λ d. (r.2 d).0)
IsBefore_at (s ∷ later) i j (inr h) = let r = IsBefore_at later i j h in (suc r.0, suc r.1, omega (arith, r.2), omega (arith, r.3), r.4, r.5)

together_tail : (s : Step) (later : List Step) → IsTogether (s ∷ later) → IsTogether later
together_tail s later g = record { between = λ i j k a b c e. g.between (suc i) (suc j) (suc k) (omega (arith, a)) (omega (arith, b)) (omega (arith, c)) e }

-- after its block an invocation has no step
no_return : (s : Step) (later : List Step) (i : ℕ) → IsTogether (s ∷ later) → IsBefore later i s.inv → ⊥
no_return s later i g h =
    let r = IsBefore_at later i s.inv h in
    let end : s.inv ≡ inv_at later r.1 = sym (r.5 s) ∙ sym (inv_read later r.1 s r.3) in
    let mid : inv_at later r.0 ≡ s.inv = g.between 0 (suc r.0) (suc r.1) (omega arith) (omega (arith, r.2)) (omega (arith, r.3)) end in
    IsBefore_differ later i s.inv h (sym (r.4 s) ∙ sym (inv_read later r.0 s (omega (arith, r.2, r.3))) ∙ mid)

-- in a trace that is together, the place of an invocation's first step is such an order
together_ordered : (t : List Step) → IsTogether t → (i j : ℕ) → IsBefore t i j → rank (map (λ (s : Step). s.inv) t) i < rank (map (λ (s : Step). s.inv) t) j
together_ordered [] g i j h = absurd h
together_ordered (s ∷ later) g i j (inl h) =
    let other : (j ≡ s.inv → ⊥) = λ e. IsBefore_differ (s ∷ later) i j (inl h) (sym h.0 ∙ sym e) in
    omega (arith, rank_here i s.inv (map (λ (s : Step). s.inv) later) (sym h.0), rank_there j s.inv (map (λ (s : Step). s.inv) later) other)
together_ordered (s ∷ later) g i j (inr h) =
    let other : (j ≡ s.inv → ⊥) = λ e. no_return s later i g (subst (λ x. IsBefore later i x) e h) in
    let deep = together_ordered later (together_tail s later g) i j h in
    elim (cases_eq i s.inv) [
      | inl same ↦ omega (arith, rank_here i s.inv (map (λ (s : Step). s.inv) later) same, rank_there j s.inv (map (λ (s : Step). s.inv) later) other)
      | inr apart ↦ omega (arith, deep, rank_there i s.inv (map (λ (s : Step). s.inv) later) apart, rank_there j s.inv (map (λ (s : Step). s.inv) later) other)
    ]

pub rank_from_free : (t : List Step) → Free t → (r : ℕ → ℕ) × KeepsBefore t r
rank_from_free t f =
    let alike = swaps_alike f.places t f.result f.swaps_to_result in
    (rank (map (λ (s : Step). s.inv) f.result), λ i j b. together_ordered f.result f.is_together i j (IsBefore_from f.result i j (sym (alike.1 i j) ∙ b)))

-- no number is the least where each has a lower one
no_descent : (u : List ℕ) (r : ℕ → ℕ) → ((j : ℕ) → In j u → (i : ℕ) × In i u × (r i < r j)) → (n j : ℕ) → In j u → r j < n → ⊥
no_descent u r lower zero j h k = omega (arith, k)
no_descent u r lower (suc n) j h k = let l = lower j h in no_descent u r lower n l.0 l.1 (omega (arith, k, l.2))

no_rest : (xs : List ℕ) → ((j : ℕ) → In j xs → ⊥) → xs ≡ []
no_rest [] h = refl
no_rest (x ∷ xs) h = absurd (h x (inl refl))

all_placed : (t : List Step) (r : ℕ → ℕ) → KeepsBefore t r → (n : ℕ) (u : List ℕ) → length u ≤ n → (placing_from t n u).rest ≡ []
unfolding placing_from
all_placed t r keeps zero u h = no_rest u (λ j k. absurd (not_short u j k h))
  where
    not_short : (u : List ℕ) (j : ℕ) → In j u → length u ≤ 0 → ⊥
    not_short [] j k h = k
    not_short (x ∷ xs) j k h = omega (arith, h)
all_placed t r keeps (suc n) u h = go (option_cases (next_placed t u)) (λ m. all_placed t r keeps n (without m u))
  where
    go : (next_placed t u ≡ None) ⊎ ((m : ℕ) × (next_placed t u ≡ Some m)) → ((m : ℕ) → length (without m u) ≤ n → (placing_from t n (without m u)).rest ≡ []) → (placing_from t (suc n) u).rest ≡ []
    go (inl none) deep =
        let lower : ((j : ℕ) → In j u → (i : ℕ) × In i u × (r i < r j)) = λ j k. let l = next_none t u none j k in (l.0, l.1, keeps l.0 j l.2) in
        ap (λ p. p.rest) (placing_none t n u none) ∙ no_rest u (λ j k. no_descent u r lower (suc (r j)) j k (omega arith))
    go (inr some) deep =
        let m = some.0 in
        ap (λ p. p.rest) (placing_some t n u m some.1) ∙ deep m (omega (arith, h, length-without m u (next_some t u m some.1).0))

placed_from_rank : (t : List Step) (r : ℕ → ℕ) → KeepsBefore t r → (placing t).rest ≡ []
unfolding placing
placed_from_rank t r keeps = all_placed t r keeps (length (members t)) (members t) (omega arith)

pub placed_from_free : (t : List Step) → Free t → (placing t).rest ≡ []
placed_from_free t f = let o = rank_from_free t f in placed_from_rank t o.0 o.1

pub free_from_rank : (t : List Step) (r : ℕ → ℕ) → KeepsBefore t r → Free t
free_from_rank t r keeps = free_from_placed t (placed_from_rank t r keeps)

pub free_exactly_where_placed : FreeExactlyWherePlaced
free_exactly_where_placed t = (placed_from_free t, free_from_placed t)

pub free_exactly_where_ordered : FreeExactlyWhereOrdered
free_exactly_where_ordered t = (rank_from_free t, λ o. free_from_rank t o.0 o.1)

pub single_free : SingleFree
single_free t i all = free_from_placed t (single_placed t i (Each_from_all (λ s. s.inv ≡ i) t all))
