-- Conflicts and what a trace puts before what, as facts.
use Rattle.std.proofs.Common.{◌≡◌, ℕ, true, false, ◌&&◌, ◌==◌, eqb, List, [], ◌∷◌, ◌⊎◌, inl, inr, refl, sym, ◌∙◌}
use Rattle.std.proofs.lemmas.Bool.{or_cases, both_ways, or_left, or_right, and_parts, and_from, eqb-true, eq-eqb, not-true, cases_Bool}
use Rattle.ecf_lang.specs.declared.run.Step.{Step}
use Rattle.ecf_verdicts.specs.Conflicts.{conflicts}
use Rattle.ecf_verdicts.specs.Before.{before}
use Rattle.ecf_verdicts.specs.ListLemmas.{Has, Has_weaker, Has_from_any, any_from_Has}

-- conflicting steps are of different invocations
pub conflicts_differ : (a b : Step) → conflicts a b ≡ true → a.inv ≡ b.inv → ⊥
unfolding conflicts
conflicts_differ a b e same = both_ways (eqb a.inv b.inv) (not-true _ (and_parts _ _ e).0) (eq-eqb a.inv b.inv same)

-- a step of i, and later a conflicting one of j
abbrev pub IsBefore : List Step → ℕ → ℕ → Type 0
IsBefore [] i j = ⊥
IsBefore (s ∷ later) i j = ((s.inv ≡ i) × Has (λ u. (u.inv ≡ j) × (conflicts s u ≡ true)) later) ⊎ IsBefore later i j

pub IsBefore_from : (t : List Step) (i j : ℕ) → before t i j ≡ true → IsBefore t i j
unfolding before
IsBefore_from [] i j e = absurd (both_ways false refl e)
IsBefore_from (s ∷ later) i j e = elim (or_cases _ _ e) [
  | inl h ↦ let p = and_parts _ _ h in inl (eqb-true _ _ p.0, Has_weaker _ _ later (λ u f. let q = and_parts _ _ f in (eqb-true _ _ q.0, q.1)) (Has_from_any (λ u. (u.inv == j) && conflicts s u) later p.1))
  | inr h ↦ inr (IsBefore_from later i j h)
]

pub before_from : (t : List Step) (i j : ℕ) → IsBefore t i j → before t i j ≡ true
unfolding before
before_from [] i j h = absurd h
before_from (s ∷ later) i j (inl h) = or_left _ _ (and_from _ _ (eq-eqb _ _ h.0) (any_from_Has (λ u. (u.inv == j) && conflicts s u) later (Has_weaker _ _ later (λ u f. and_from _ _ (eq-eqb _ _ f.0) f.1) h.1)))
before_from (s ∷ later) i j (inr h) = or_right _ _ (before_from later i j h)

-- the first is another invocation than the second
pub IsBefore_differ : (t : List Step) (i j : ℕ) → IsBefore t i j → i ≡ j → ⊥
IsBefore_differ [] i j h e = h
IsBefore_differ (s ∷ later) i j (inl h) e = go later h.1
  where
    go : (us : List Step) → Has (λ u. (u.inv ≡ j) × (conflicts s u ≡ true)) us → ⊥
    go [] x = x
    go (u ∷ us) (inl x) = conflicts_differ s u x.1 (h.0 ∙ e ∙ sym x.0)
    go (u ∷ us) (inr x) = go us x
IsBefore_differ (s ∷ later) i j (inr h) e = IsBefore_differ later i j h e

pub before_self : (t : List Step) (i : ℕ) → before t i i ≡ false
before_self t i = elim (cases_Bool (before t i i)) [ inl e ↦ absurd (IsBefore_differ t i i (IsBefore_from t i i e) refl) | inr e ↦ e ]
