-- The shortest first part that isn't free.
use Rattle.std.proofs.Common.{◌≡◌, ℕ, suc, zero, ◌+◌, ◌<◌, ◌≤◌, true, false, List, [], length, take, ◌⊎◌, inl, inr, refl, sym, subst, arith}
use Rattle.std.proofs.lemmas.Bool.{both_ways, cases_Bool, cases_lt}
use Rattle.std.proofs.lemmas.List.{take_all}
use Rattle.ecf_lang.specs.declared.run.Step.{Step}
use Rattle.ecf_verdicts.specs.Cycles.{is_placed, shortest_part, at}
use Rattle.ecf_verdicts.specs.Free.{Free}
use Rattle.ecf_verdicts.specs.Laws.{AtIsShortest, TestTellsFree}
use Rattle.ecf_verdicts.specs.Placing.{placing_from, placing}
use Rattle.ecf_verdicts.specs.Traces.{members}
use Rattle.ecf_verdicts.proofs.FreeLaws.{placed_from_free, free_from_placed}
use Rattle.ecf_verdicts.specs.PlacingLemmas.{is_placed_from, rest_from}

test_from_free : (t : List Step) → Free t → is_placed t ≡ true
test_from_free t f = is_placed_from t (placed_from_free t f)

pub free_from_test : (t : List Step) → is_placed t ≡ true → Free t
free_from_test t e = free_from_placed t (rest_from t e)

pub not_placed : (t : List Step) → (Free t → ⊥) → is_placed t ≡ false
not_placed t n = elim (cases_Bool (is_placed t)) [ inl e ↦ absurd (n (free_from_test t e)) | inr e ↦ e ]

pub not_free : (t : List Step) → is_placed t ≡ false → Free t → ⊥
not_free t e f = both_ways (is_placed t) e (test_from_free t f)

pub test_tells_free : TestTellsFree
test_tells_free t = ((free_from_test t, test_from_free t), (not_free t, not_placed t))

pub nothing_placed : is_placed [] ≡ true
unfolding is_placed placing placing_from members
nothing_placed = refl

shortest_goes : (t : List Step) (more n : ℕ) → is_placed (take n t) ≡ true → shortest_part t (suc more) n ≡ shortest_part t more (suc n)
unfolding shortest_part
shortest_goes t more n e = rw (e, shortest_part) refl

shortest_stops : (t : List Step) (more n : ℕ) → is_placed (take n t) ≡ false → shortest_part t (suc more) n ≡ n
unfolding shortest_part
shortest_stops t more n e = rw (e, shortest_part) refl

-- what is found from n on, where all shorter parts are placed
record Found (t : List Step) (r : ℕ) : Type 0 where
  within : r ≤ length t
  fails : is_placed (take r t) ≡ false
  shorter : (m : ℕ) → m < r → is_placed (take m t) ≡ true

found : (t : List Step) → is_placed t ≡ false → (more n : ℕ) → n + more ≡ length t → ((m : ℕ) → m < n → is_placed (take m t) ≡ true) → Found t (shortest_part t more n)
unfolding shortest_part
found t e zero n h shorter = record { within = omega arith; fails = rw (take_all n t (omega arith)) e; shorter = shorter }
found t e (suc more) n h shorter = go (cases_Bool (is_placed (take n t))) (λ s. found t e more (suc n) (omega arith) s)
  where
    longer : is_placed (take n t) ≡ true → (m : ℕ) → m < suc n → is_placed (take m t) ≡ true
    longer f m k = elim (cases_lt m n) [ inl l ↦ shorter m l | inr g ↦ (let same : m ≡ n = omega arith in subst (λ x. is_placed (take x t) ≡ true) (sym same) f) ]

    go : (is_placed (take n t) ≡ true) ⊎ (is_placed (take n t) ≡ false) → (((m : ℕ) → m < suc n → is_placed (take m t) ≡ true) → Found t (shortest_part t more (suc n))) → Found t (shortest_part t (suc more) n)
    go (inl f) deep = subst (λ r. Found t r) (sym (shortest_goes t more n f)) (deep (longer f))
    go (inr f) deep = subst (λ r. Found t r) (sym (shortest_stops t more n f)) (record { within = omega arith; fails = f; shorter = shorter })

no_step : (t : List Step) (r : ℕ) → r ≡ 0 → is_placed (take r t) ≡ false → ⊥
no_step t r e f = both_ways _ f (subst (λ x. is_placed (take x t) ≡ true) (sym e) nothing_placed)

found_at : (t : List Step) → is_placed t ≡ false → Found t (at t)
unfolding at
found_at t e = found t e (length t) 0 (omega arith) (λ m h. absurd (omega (arith, h)))

pub at_is_shortest : AtIsShortest
at_is_shortest t n =
    let f = found_at t (not_placed t n) in
    record {
      some_steps = elim (cases_lt 0 (at t)) [ inl l ↦ l | inr g ↦ absurd (no_step t (at t) (omega (arith, g)) f.fails) ];
      within = f.within;
      not_free = not_free (take (at t) t) f.fails;
      shorter_free = λ m h. free_from_test (take m t) (f.shorter m h);
    }
