-- Legal swaps keep what each read gives and what each cell holds at the end.
use Rattle.std.proofs.Common.{◌≡◌, ℕ, Bool, true, false, cond, not, ◌&&◌, ◌||◌, List, ◌∷◌, refl, sym, ap, subst, ◌∙◌}
use Rattle.std.proofs.lemmas.Bool.{both_ways, eq-eqb, ne_eqb, and_parts, and_from, or_left, false_from_ne_true}
use Rattle.ecf_lang.specs.declared.cell.Cell.{Cell}
use Rattle.ecf_lang.specs.declared.run.Step.{Step}
use Rattle.ecf_verdicts.specs.Conflicts.{conflicts, same_cell}
use Rattle.ecf_verdicts.specs.Swaps.{may_swap}
use Rattle.ecf_verdicts.specs.SwapLemmas.{swaps_keep, no_conflict, may_swap_sym, other_inv, same_cell_parts}
use Rattle.ecf_removed.specs.Contents.{Contents, contents_after, contents_after_all, ReadsGive}
use Rattle.ecf_removed.specs.Laws.{SwapsKeepReads, SwapsKeepEnds}

pub same_cell_is : (a b : Cell) → same_cell a b ≡ true → a ≡ b
same_cell_is a b e = let p = same_cell_parts a b e in λ i. record { object = p.0 i; field = p.1 i; key = p.2 i }

pub same_cell_self : (a : Cell) → same_cell a a ≡ true
unfolding same_cell
same_cell_self a = and_from _ _ (eq-eqb a.object a.object refl) (and_from _ _ (eq-eqb a.field a.field refl) (eq-eqb a.key a.key refl))

-- a write of a step and a step on its cell of another invocation conflict
clash : (a b : Step) → (a.inv ≡ b.inv → ⊥) → same_cell a.cell b.cell ≡ true → (a.write || b.write) ≡ true → conflicts a b ≡ true
unfolding conflicts
clash a b n e f = and_from _ _ (ap not (ne_eqb a.inv b.inv n)) (and_from _ _ e f)

-- where the steps may swap, the first's write isn't of the second's cell
quiet : (a b : Step) → may_swap a b ≡ true → (a.write && same_cell a.cell b.cell) ≡ false
quiet a b m = false_from_ne_true (a.write && same_cell a.cell b.cell) (λ e. let p = and_parts _ _ e in both_ways _ (no_conflict a b m) (clash a b (other_inv a b m) p.1 (or_left _ _ p.0)))

-- of two steps that may swap, no cell is written by both
not_both : (a b : Step) (cell : Cell) → may_swap a b ≡ true → (a.write && same_cell a.cell cell) ≡ true → (b.write && same_cell b.cell cell) ≡ true → ⊥
not_both a b cell m e f =
    let p = and_parts _ _ e in
    let q = and_parts _ _ f in
    let same : a.cell ≡ b.cell = same_cell_is a.cell cell p.1 ∙ sym (same_cell_is b.cell cell q.1) in
    both_ways _ (no_conflict a b m) (clash a b (other_inv a b m) (subst (λ c. same_cell a.cell c ≡ true) same (same_cell_self a.cell)) (or_left _ _ p.0))

chosen_either : (p q : Bool) (x y z : ℕ) → (p ≡ true → q ≡ true → ⊥) → cond q y (cond p x z) ≡ cond p x (cond q y z)
chosen_either true true x y z h = absurd (h refl refl)
chosen_either true false x y z h = refl
chosen_either false q x y z h = refl

pub after_both : (a b : Step) (contents : Contents) → may_swap a b ≡ true → contents_after b (contents_after a contents) ≡ contents_after a (contents_after b contents)
after_both a b contents m = λ i cell. chosen_either (a.write && same_cell a.cell cell) (b.write && same_cell b.cell cell) a.value b.value (contents cell) (not_both a b cell m) i

reads_here : (a b : Step) (rest : List Step) → may_swap a b ≡ true → (contents : Contents) → ReadsGive contents (a ∷ b ∷ rest) → ReadsGive contents (b ∷ a ∷ rest)
reads_here a b rest m contents h =
    let first : contents_after a contents b.cell ≡ contents b.cell = ap (λ t. cond t a.value (contents b.cell)) (quiet a b m) in
    let second : contents_after b contents a.cell ≡ contents a.cell = ap (λ t. cond t b.value (contents a.cell)) (quiet b a (sym (may_swap_sym a b) ∙ m)) in (
      λ is. h.1.0 is ∙ first,
      (λ is. h.0 is ∙ sym second, subst (λ k. ReadsGive k rest) (after_both a b contents m) h.1.1),
    )

pub swaps_keep_reads : SwapsKeepReads
swaps_keep_reads t places u e = swaps_keep (λ t u. (contents : Contents) → ReadsGive contents t → ReadsGive contents u)
    (λ a b rest m contents h. reads_here a b rest m contents h)
    (λ a t u k contents h. (h.0, k (contents_after a contents) h.1))
    (λ t contents h. h)
    (λ t u v h k contents r. k contents (h contents r))
    places t u e

pub swaps_keep_ends : SwapsKeepEnds
swaps_keep_ends t places u e = swaps_keep (λ t u. (contents : Contents) → contents_after_all u contents ≡ contents_after_all t contents)
    (λ a b rest m contents. ap (contents_after_all rest) (sym (after_both a b contents m)))
    (λ a t u k contents. k (contents_after a contents))
    (λ t contents. refl)
    (λ t u v h k contents. k contents ∙ h contents)
    places t u e
