-- The placing step by step: what is taken out, what comes next, and what says that all are placed.
use Rattle.std.proofs.Common.{◌≡◌, ℕ, suc, Bool, true, false, eqb, ◌==◌, not, List, [], ◌∷◌, Option, Some, None, refl, ap}
use Rattle.std.proofs.lemmas.Bool.{both_ways, eq-eqb, ne_eqb, not-true, not-false}
use Rattle.ecf_lang.specs.declared.run.Step.{Step}
use Rattle.ecf_verdicts.specs.Before.{before}
use Rattle.ecf_verdicts.specs.Cycles.{is_placed}
use Rattle.ecf_verdicts.specs.ListLemmas.{In, Each_at, Has_in, Has_from_in, Has_from_any, any_from_Has, In_filter, In_filter_from, find_some, find_none}
use Rattle.ecf_verdicts.specs.Placing.{Placing, waits, next_placed, without, placing_from, placing}

-- a list without a number
pub In_without : (j : ℕ) (xs : List ℕ) (i : ℕ) → In i (without j xs) → In i xs × (i ≡ j → ⊥)
unfolding without
In_without j xs i h = let r = In_filter (λ k. not (k == j)) xs i h in (r.0, λ e. both_ways (eqb i j) (not-true _ r.1) (eq-eqb i j e))

pub In_without_from : (j : ℕ) (xs : List ℕ) (i : ℕ) → In i xs → (i ≡ j → ⊥) → In i (without j xs)
unfolding without
In_without_from j xs i h n = In_filter_from (λ k. not (k == j)) xs i h (ap not (ne_eqb i j n))

-- the next is unplaced, and no unplaced one is before it
pub next_some : (t : List Step) (u : List ℕ) (j : ℕ) → next_placed t u ≡ Some j → In j u × ((i : ℕ) → In i u → before t i j ≡ true → ⊥)
unfolding next_placed waits
next_some t u j e =
    let r = find_some (λ k. not (waits t u k)) u j e in
    (r.0, λ i h b. both_ways _ (not-true _ r.1) (any_from_Has (λ k. before t k j) u (Has_from_in _ u i h b)))

-- where there is none, an unplaced one is before each
pub next_none : (t : List Step) (u : List ℕ) → next_placed t u ≡ None → (j : ℕ) → In j u → (i : ℕ) × In i u × (before t i j ≡ true)
unfolding next_placed waits
next_none t u e j h =
    let all = find_none (λ k. not (waits t u k)) u e in
    Has_in (λ i. before t i j ≡ true) u (Has_from_any (λ i. before t i j) u (not-false _ (Each_at (λ k. not (waits t u k) ≡ false) u j all h)))

-- one step of the placing
abbrev after_next : List Step → ℕ → List ℕ → Option ℕ → Placing
after_next t n unplaced o = elim o as (λ _. Placing) [
  | None ↦ record { order = []; rest = unplaced }
  | Some j ↦ record { order = j ∷ (placing_from t n (without j unplaced)).order; rest = (placing_from t n (without j unplaced)).rest }
]

pub placing_none : (t : List Step) (n : ℕ) (unplaced : List ℕ) → next_placed t unplaced ≡ None → placing_from t (suc n) unplaced ≡ record { order = []; rest = unplaced }
unfolding placing_from
placing_none t n unplaced e = ap (after_next t n unplaced) e

pub placing_some : (t : List Step) (n : ℕ) (unplaced : List ℕ) (j : ℕ) → next_placed t unplaced ≡ Some j →
    placing_from t (suc n) unplaced ≡ record { order = j ∷ (placing_from t n (without j unplaced)).order; rest = (placing_from t n (without j unplaced)).rest }
unfolding placing_from
placing_some t n unplaced j e = ap (after_next t n unplaced) e

-- all are placed exactly where no rest is left
pub is_placed_from : (t : List Step) → (placing t).rest ≡ [] → is_placed t ≡ true
unfolding is_placed
is_placed_from t e = ap (λ (r : List ℕ). elim r as (λ _. Bool) [ [] ↦ true | i ∷ is ↦ false ]) e

pub rest_from : (t : List Step) → is_placed t ≡ true → (placing t).rest ≡ []
unfolding is_placed
rest_from t e = go (placing t).rest refl
  where
    go : (r : List ℕ) → (placing t).rest ≡ r → (placing t).rest ≡ []
    go [] f = f
    go (i ∷ is) f = absurd (both_ways (is_placed t) (ap (λ (r : List ℕ). elim r as (λ _. Bool) [ [] ↦ true | i ∷ is ↦ false ]) f) e)
