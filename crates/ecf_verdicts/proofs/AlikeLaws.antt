-- Legal swaps keep what is before what.
use Rattle.std.proofs.Common.{◌≡◌, ℕ, Bool, true, false, ◌&&◌, ◌||◌, ◌==◌, List, ◌∷◌, Some, refl, sym, ◌∙◌}
use Rattle.std.specs.List.{list_any}
use Rattle.ecf_lang.specs.declared.run.Step.{Step}
use Rattle.ecf_verdicts.specs.Before.{before}
use Rattle.ecf_verdicts.specs.Conflicts.{conflicts}
use Rattle.ecf_verdicts.specs.SwapLemmas.{swaps_keep, conflicts_sym, no_conflict}
use Rattle.ecf_verdicts.specs.Swaps.{swaps}

-- some step is such, and what is before what, are the same after a swap
abbrev pub Alike : List Step → List Step → Type 0
Alike t u = ((p : Step → Bool) → list_any p t ≡ list_any p u) × ((i j : ℕ) → before t i j ≡ before u i j)

or_swap : (x y z : Bool) → (x || (y || z)) ≡ (y || (x || z))
or_swap true true z = refl
or_swap true false z = refl
or_swap false true z = refl
or_swap false false z = refl

and_none : (x : Bool) → (x && false) ≡ false
and_none true = refl
and_none false = refl

at_swap : (ai bi aj bj c d A B R : Bool) → c ≡ false → d ≡ false → ((ai && ((bj && c) || A)) || ((bi && B) || R)) ≡ ((bi && ((aj && d) || B)) || ((ai && A) || R))
at_swap ai bi aj bj c d A B R e f = rw (e, f, and_none bj, and_none aj) (or_swap (ai && A) (bi && B) R)

before_here : (a b : Step) (rest : List Step) → conflicts a b ≡ false → (i j : ℕ) → before (a ∷ b ∷ rest) i j ≡ before (b ∷ a ∷ rest) i j
unfolding before
before_here a b rest e i j =
    at_swap (a.inv == i) (b.inv == i) (a.inv == j) (b.inv == j) (conflicts a b) (conflicts b a)
    (list_any (λ u. (u.inv == j) && conflicts a u) rest) (list_any (λ u. (u.inv == j) && conflicts b u) rest) (before rest i j)
    e (sym (conflicts_sym a b) ∙ e)

before_there : (a : Step) (t u : List Step) → Alike t u → (i j : ℕ) → before (a ∷ t) i j ≡ before (a ∷ u) i j
unfolding before
before_there a t u h i j = rw (h.0 (λ x. (x.inv == j) && conflicts a x), h.1 i j) refl

pub swaps_alike : (places : List ℕ) (t u : List Step) → swaps t places ≡ Some u → Alike t u
swaps_alike = swaps_keep Alike
    (λ a b rest e. (λ p. or_swap (p a) (p b) (list_any p rest), before_here a b rest (no_conflict a b e)))
    (λ a t u h. (λ p. rw (h.0 p) refl, before_there a t u h))
    (λ t. (λ p. refl, λ i j. refl))
    (λ t u v h k. (λ p. h.0 p ∙ k.0 p, λ i j. h.1 i j ∙ k.1 i j))
