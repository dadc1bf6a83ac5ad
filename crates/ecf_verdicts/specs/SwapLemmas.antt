-- Legal swaps one by one: which steps may swap, and that a relation which each swap keeps is kept by all of them.
use Rattle.std.proofs.Common.{◌≡◌, ℕ, suc, zero, Bool, true, false, not, ◌&&◌, ◌||◌, eqb, List, [], ◌∷◌, Option, Some, None, option_map, option_and_then, if◌then◌else◌, inl, inr, refl, sym, ◌∙◌, subst}
use Rattle.std.proofs.lemmas.Bool.{both_ways, cases_Bool, and_parts, not-true, eqb-true, eq-eqb}
use Rattle.std.proofs.lemmas.Option.{none-some, same_Some}
use Rattle.ecf_lang.specs.declared.cell.Cell.{Cell}
use Rattle.ecf_lang.specs.declared.run.Step.{Step}
use Rattle.ecf_verdicts.specs.Conflicts.{conflicts, same_cell}
use Rattle.ecf_verdicts.specs.Swaps.{may_swap, swap_at, swaps}

pub eqb_sym : (x y : ℕ) → eqb x y ≡ eqb y x
eqb_sym x y = elim (cases_Bool (eqb x y)) [
  | inl e ↦ e ∙ sym (eq-eqb y x (sym (eqb-true x y e)))
  | inr e ↦ elim (cases_Bool (eqb y x)) [
    | inl f ↦ absurd (both_ways (eqb x y) e (eq-eqb x y (sym (eqb-true y x f))))
    | inr f ↦ e ∙ sym f
  ]
]

or_sym : (x y : Bool) → (x || y) ≡ (y || x)
or_sym true true = refl
or_sym true false = refl
or_sym false true = refl
or_sym false false = refl

-- the parts of two cells that are one
pub same_cell_parts : (a b : Cell) → same_cell a b ≡ true → (a.object ≡ b.object) × (a.field ≡ b.field) × (a.key ≡ b.key)
unfolding same_cell
same_cell_parts a b e = let p = and_parts _ _ e in let q = and_parts _ _ p.1 in (eqb-true _ _ p.0, eqb-true _ _ q.0, eqb-true _ _ q.1)

pub same_cell_sym : (a b : Cell) → same_cell a b ≡ same_cell b a
unfolding same_cell
same_cell_sym a b = λ i. eqb_sym a.object b.object i && (eqb_sym a.field b.field i && eqb_sym a.key b.key i)

pub conflicts_sym : (a b : Step) → conflicts a b ≡ conflicts b a
unfolding conflicts
conflicts_sym a b = λ i. not (eqb_sym a.inv b.inv i) && (same_cell_sym a.cell b.cell i && or_sym a.write b.write i)

-- steps that may swap don't conflict, and are of different invocations
pub no_conflict : (a b : Step) → may_swap a b ≡ true → conflicts a b ≡ false
unfolding may_swap
no_conflict a b e = not-true _ (and_parts _ _ e).1

pub other_inv : (a b : Step) → may_swap a b ≡ true → a.inv ≡ b.inv → ⊥
unfolding may_swap
other_inv a b e same = both_ways (eqb a.inv b.inv) (not-true _ (and_parts _ _ e).0) (eq-eqb a.inv b.inv same)

pub may_swap_sym : (a b : Step) → may_swap a b ≡ may_swap b a
unfolding may_swap
may_swap_sym a b = λ i. not (eqb_sym a.inv b.inv i) && not (conflicts_sym a b i)

-- what one swap keeps, here and behind a step, is kept by each legal swap, and by all of them where it goes on
module _ (P : List Step → List Step → Type 0)
    (here : (a b : Step) (rest : List Step) → may_swap a b ≡ true → P (a ∷ b ∷ rest) (b ∷ a ∷ rest))
    (there : (a : Step) (t u : List Step) → P t u → P (a ∷ t) (a ∷ u)) where
  at_here : (a b : Step) (rest u : List Step) (m : Bool) → may_swap a b ≡ m → (if m then Some (b ∷ a ∷ rest) else None) ≡ Some u → P (a ∷ b ∷ rest) u
  at_here a b rest u true f e = subst (λ v. P (a ∷ b ∷ rest) v) (same_Some _ _ e) (here a b rest f)
  at_here a b rest u false f e = absurd (none-some _ e)

  at_there : (a : Step) (t u : List Step) (o : Option (List Step)) → ((v : List Step) → o ≡ Some v → P t v) → option_map (λ v. a ∷ v) o ≡ Some u → P (a ∷ t) u
  at_there a t u None f e = absurd (none-some _ e)
  at_there a t u (Some v) f e = subst (λ w. P (a ∷ t) w) (same_Some _ _ e) (there a t v (f v refl))

  pub swap_keeps : (t : List Step) (p : ℕ) (u : List Step) → swap_at t p ≡ Some u → P t u
  unfolding swap_at
  swap_keeps [] p u e = absurd (none-some _ e)
  swap_keeps (a ∷ []) p u e = absurd (none-some _ e)
  swap_keeps (a ∷ b ∷ rest) zero u e = at_here a b rest u (may_swap a b) refl e
  swap_keeps (a ∷ b ∷ rest) (suc p) u e = at_there a (b ∷ rest) u (swap_at (b ∷ rest) p) (λ v f. swap_keeps (b ∷ rest) p v f) e

  module _ (same : (t : List Step) → P t t) (chain : (t u v : List Step) → P t u → P u v → P t v) where
    at_first : (t u : List Step) (p : ℕ) (ps : List ℕ) (o : Option (List Step)) → swap_at t p ≡ o → ((v : List Step) → swaps v ps ≡ Some u → P v u) → option_and_then (λ v. swaps v ps) o ≡ Some u → P t u
    at_first t u p ps None f g e = absurd (none-some _ e)
    at_first t u p ps (Some v) f g e = chain t v u (swap_keeps t p v f) (g v e)

    pub swaps_keep : (places : List ℕ) (t u : List Step) → swaps t places ≡ Some u → P t u
    unfolding swaps
    swaps_keep [] t u e = subst (λ v. P t v) (same_Some _ _ e) (same t)
    swaps_keep (p ∷ ps) t u e = at_first t u p ps (swap_at t p) refl (λ v f. swaps_keep ps v u f) e
