-- What legal swaps keep, and that they can be undone.
use Rattle.std.proofs.Common.{◌≡◌, ℕ, suc, zero, Bool, true, false, cond, not, ◌&&◌, ◌==◌, List, [], ◌∷◌, ◌++◌, map, take, filter, IsPermutation, Some, inl, inr, refl, sym, ap, ◌∙◌}
use Rattle.ecf_lang.specs.declared.cell.Cell.{Cell}
use Rattle.ecf_verdicts.specs.Conflicts.{conflicts, same_cell}
use Rattle.ecf_verdicts.specs.Laws.{SwapsKeepWrites}
use Rattle.std.proofs.lemmas.Bool.{both_ways, eqb-true, eq-eqb, ne_eqb, and_parts, and_from, or_left}
use Rattle.std.proofs.lemmas.List.Sorted.{IsPermutation-refl, IsPermutation-trans, IsPermutation-cons, IsPermutation-middle}
use Rattle.ecf_lang.specs.declared.run.Step.{Step}
use Rattle.ecf_verdicts.specs.Laws.{SwapsPermute, SwapsKeepInvocations, SwapsKeepBefore, SwapsUndone, FirstPartsFree}
use Rattle.ecf_verdicts.specs.Swaps.{may_swap, swaps}
use Rattle.ecf_verdicts.proofs.AlikeLaws.{swaps_alike}
use Rattle.ecf_verdicts.specs.BeforeLemmas.{IsBefore, IsBefore_from, before_from}
use Rattle.ecf_verdicts.proofs.FreeLaws.{rank_from_free, free_from_rank}
use Rattle.ecf_verdicts.specs.ListLemmas.{Has}
use Rattle.ecf_verdicts.proofs.SortingLaws.{swaps_here, swaps_there, swaps_append}
use Rattle.ecf_verdicts.specs.SwapLemmas.{swaps_keep, no_conflict, other_inv, same_cell_parts, may_swap_sym}

pub swaps_permute : SwapsPermute
swaps_permute t places u e = swaps_keep (λ t u. IsPermutation t u)
    (λ a b rest e. IsPermutation-middle (a ∷ []) b rest)
    (λ a t u h. IsPermutation-cons a t u h)
    (λ t. IsPermutation-refl t)
    (λ t u v h k. IsPermutation-trans t u v h k)
    places t u e

filter_here : (a b : Step) (rest : List Step) (i : ℕ) (x y : Bool) → (a.inv == i) ≡ x → (b.inv == i) ≡ y → may_swap a b ≡ true → filter (λ (s : Step). s.inv == i) (b ∷ a ∷ rest) ≡ filter (λ (s : Step). s.inv == i) (a ∷ b ∷ rest)
filter_here a b rest i true true e f m = absurd (other_inv a b m (eqb-true _ _ e ∙ sym (eqb-true _ _ f)))
filter_here a b rest i true false e f m = rw (e, f) refl
filter_here a b rest i false y e f m = rw e refl

pub swaps_keep_invocations : SwapsKeepInvocations
swaps_keep_invocations t places u e i = swaps_keep (λ t u. filter (λ (s : Step). s.inv == i) u ≡ filter (λ (s : Step). s.inv == i) t)
    (λ a b rest e. filter_here a b rest i (a.inv == i) (b.inv == i) refl refl e)
    (λ a t u h. ap (λ l. cond (a.inv == i) (a ∷ l) l) h)
    (λ t. refl)
    (λ t u v h k. k ∙ h)
    places t u e

same_cell_both : (a b c : Cell) → same_cell a c ≡ true → same_cell b c ≡ true → same_cell a b ≡ true
unfolding same_cell
same_cell_both a b c e f =
    let p = same_cell_parts a c e in
    let q = same_cell_parts b c f in
    and_from _ _ (eq-eqb _ _ (p.0 ∙ sym q.0)) (and_from _ _ (eq-eqb _ _ (p.1 ∙ sym q.1)) (eq-eqb _ _ (p.2 ∙ sym q.2)))

-- two writes of a cell of different invocations conflict
writes_conflict : (a b : Step) (c : Cell) → (a.inv ≡ b.inv → ⊥) → (a.write && same_cell a.cell c) ≡ true → (b.write && same_cell b.cell c) ≡ true → conflicts a b ≡ true
unfolding conflicts
writes_conflict a b c n e f =
    let p = and_parts _ _ e in
    let q = and_parts _ _ f in
    and_from _ _ (ap not (ne_eqb a.inv b.inv n)) (and_from _ _ (same_cell_both a.cell b.cell c p.1 q.1) (or_left _ _ p.0))

writes_here : (a b : Step) (rest : List Step) (c : Cell) (m n : Bool) → (a.write && same_cell a.cell c) ≡ m → (b.write && same_cell b.cell c) ≡ n → may_swap a b ≡ true →
    filter (λ (s : Step). s.write && same_cell s.cell c) (b ∷ a ∷ rest) ≡ filter (λ (s : Step). s.write && same_cell s.cell c) (a ∷ b ∷ rest)
writes_here a b rest c true true e f s = absurd (both_ways _ (no_conflict a b s) (writes_conflict a b c (other_inv a b s) e f))
writes_here a b rest c true false e f s = rw (e, f) refl
writes_here a b rest c false n e f s = rw e refl

pub swaps_keep_writes : SwapsKeepWrites
swaps_keep_writes t places u e c = swaps_keep (λ t u. filter (λ (s : Step). s.write && same_cell s.cell c) u ≡ filter (λ (s : Step). s.write && same_cell s.cell c) t)
    (λ a b rest e. writes_here a b rest c (a.write && same_cell a.cell c) (b.write && same_cell b.cell c) refl refl e)
    (λ a t u h. ap (λ l. cond (a.write && same_cell a.cell c) (a ∷ l) l) h)
    (λ t. refl)
    (λ t u v h k. k ∙ h)
    places t u e

pub swaps_keep_before : SwapsKeepBefore
swaps_keep_before t places u e i j = sym ((swaps_alike places t u e).1 i j)

undone_here : (a b : Step) (rest : List Step) → may_swap a b ≡ true → swaps (b ∷ a ∷ rest) (zero ∷ []) ≡ Some (a ∷ b ∷ rest)
unfolding swaps
undone_here a b rest e = swaps_here b a rest [] (sym (may_swap_sym a b) ∙ e)

undone_none : (t : List Step) → swaps t [] ≡ Some t
unfolding swaps
undone_none t = refl

pub swaps_undone : SwapsUndone
swaps_undone t places u e = swaps_keep (λ t u. (back : List ℕ) × (swaps u back ≡ Some t))
    (λ a b rest e. (zero ∷ [], undone_here a b rest e))
    (λ a t u h. (map suc h.0, swaps_there a h.0 u t h.1))
    (λ t. ([], undone_none t))
    (λ t u v h k. (k.0 ++ h.0, swaps_append k.0 h.0 v u k.1 ∙ h.1))
    places t u e

Has_take : (P : Step → Type 0) (n : ℕ) (xs : List Step) → Has P (take n xs) → Has P xs
Has_take P zero xs h = absurd h
Has_take P (suc n) [] h = h
Has_take P (suc n) (x ∷ xs) (inl p) = inl p
Has_take P (suc n) (x ∷ xs) (inr h) = inr (Has_take P n xs h)

IsBefore_take : (n : ℕ) (t : List Step) (i j : ℕ) → IsBefore (take n t) i j → IsBefore t i j
IsBefore_take zero t i j h = absurd h
IsBefore_take (suc n) [] i j h = h
IsBefore_take (suc n) (s ∷ t) i j (inl h) = inl (h.0, Has_take _ n t h.1)
IsBefore_take (suc n) (s ∷ t) i j (inr h) = inr (IsBefore_take n t i j h)

pub first_parts_free : FirstPartsFree
first_parts_free t f n =
    let o = rank_from_free t f in
    free_from_rank (take n t) o.0 (λ i j b. o.1 i j (before_from t i j (IsBefore_take n t i j (IsBefore_from (take n t) i j b))))
