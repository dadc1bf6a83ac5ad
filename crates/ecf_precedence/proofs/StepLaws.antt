-- One step more at the end of a trace.
use Rattle.std.proofs.Common.{◌≡◌, ℕ, true, ◌&&◌, ◌==◌, List, [], ◌∷◌, ◌++◌, ◌⊎◌, inl, inr}
use Rattle.std.proofs.lemmas.Bool.{or_cases, or_left, or_right, and_parts, and_from, eqb-true, eq-eqb}
use Rattle.ecf_lang.specs.declared.run.Step.{Step}
use Rattle.ecf_verdicts.specs.Conflicts.{conflicts}
use Rattle.ecf_verdicts.specs.BeforeLemmas.{IsBefore, IsBefore_from, before_from}
use Rattle.ecf_verdicts.specs.ListLemmas.{Has, Has_weaker, Has_from_any, any_from_Has}
use Rattle.ecf_precedence.specs.EndLemmas.{same_test, Has_snoc, Has_front, Has_last}
use Rattle.ecf_precedence.specs.Newest.{adds_pair}
use Rattle.ecf_precedence.specs.Laws.{OneStepMore}

-- a step of i conflicts with s
abbrev pub Adds : List Step → Step → ℕ → Type 0
Adds t s i = Has (λ u. (u.inv ≡ i) × (conflicts u s ≡ true)) t

pub Adds_from : (t : List Step) (s : Step) (i : ℕ) → adds_pair t s i ≡ true → Adds t s i
unfolding adds_pair
Adds_from t s i e = Has_weaker _ _ t (λ u f. let q = and_parts _ _ f in (eqb-true _ _ q.0, q.1)) (Has_from_any (λ u. (u.inv == i) && conflicts u s) t e)

pub adds_from : (t : List Step) (s : Step) (i : ℕ) → Adds t s i → adds_pair t s i ≡ true
unfolding adds_pair
adds_from t s i h = any_from_Has (λ u. (u.inv == i) && conflicts u s) t (Has_weaker _ _ t (λ u f. and_from _ _ (eq-eqb _ _ f.0) f.1) h)

pub snoc_cases : (t : List Step) (s : Step) (i j : ℕ) → IsBefore (t ++ s ∷ []) i j → IsBefore t i j ⊎ ((s.inv ≡ j) × Adds t s i)
snoc_cases [] s i j (inl h) = absurd h.1
snoc_cases [] s i j (inr h) = absurd h
snoc_cases (x ∷ xs) s i j (inl h) = elim (Has_snoc _ xs s h.1) [ inl a ↦ inl (inl (h.0, a)) | inr b ↦ inr (b.0, inl (h.0, b.1)) ]
snoc_cases (x ∷ xs) s i j (inr h) = elim (snoc_cases xs s i j h) [ inl a ↦ inl (inr a) | inr b ↦ inr (b.0, inr b.1) ]

pub snoc_old : (t : List Step) (s : Step) (i j : ℕ) → IsBefore t i j → IsBefore (t ++ s ∷ []) i j
snoc_old [] s i j h = absurd h
snoc_old (x ∷ xs) s i j (inl h) = inl (h.0, Has_front _ xs s h.1)
snoc_old (x ∷ xs) s i j (inr h) = inr (snoc_old xs s i j h)

pub snoc_new : (t : List Step) (s : Step) (i j : ℕ) → s.inv ≡ j → Adds t s i → IsBefore (t ++ s ∷ []) i j
snoc_new [] s i j e h = absurd h
snoc_new (x ∷ xs) s i j e (inl h) = inl (h.0, Has_last _ xs s (e, h.1))
snoc_new (x ∷ xs) s i j e (inr h) = inr (snoc_new xs s i j e h)

pub one_step_more : OneStepMore
one_step_more t s i j = same_test _ _
    (λ e. elim (snoc_cases t s i j (IsBefore_from (t ++ s ∷ []) i j e)) [
      | inl a ↦ or_left _ _ (before_from t i j a)
      | inr b ↦ or_right _ _ (and_from _ _ (eq-eqb _ _ b.0) (adds_from t s i b.1))
    ])
    (λ e. elim (or_cases _ _ e) [
      | inl a ↦ before_from (t ++ s ∷ []) i j (snoc_old t s i j (IsBefore_from t i j a))
      | inr b ↦ (let p = and_parts _ _ b in before_from (t ++ s ∷ []) i j (snoc_new t s i j (eqb-true _ _ p.0) (Adds_from t s i p.1)))
    ])
