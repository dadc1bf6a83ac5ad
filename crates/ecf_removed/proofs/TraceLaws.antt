-- What steps do to an object depends on the object's cells alone.
use Rattle.std.proofs.Common.{◌≡◌, ℕ, Bool, true, false, cond, ◌&&◌, eqb, ◌==◌, List, [], ◌∷◌, ◌⊎◌, inl, inr, refl, sym, ap, ◌∙◌}
use Rattle.std.proofs.lemmas.Bool.{cases_eq, eq-eqb, ne_eqb, and_parts, false_from_ne_true}
use Rattle.ecf_lang.specs.declared.cell.Cell.{Cell}
use Rattle.ecf_lang.specs.declared.run.Step.{Step}
use Rattle.ecf_verdicts.specs.Conflicts.{same_cell}
use Rattle.ecf_verdicts.specs.Traces.{trace}
use Rattle.ecf_removed.specs.Contents.{Contents, contents_after, contents_after_all, ReadsGive, AgreeOn, TraceSuffices}
use Rattle.ecf_removed.specs.Laws.{TracesSuffice}
use Rattle.ecf_removed.proofs.SwapLaws.{same_cell_is}

trace_on : (s : Step) (steps : List Step) (object : ℕ) → s.cell.object ≡ object → trace (s ∷ steps) object ≡ s ∷ trace steps object
unfolding trace
trace_on s steps object e = ap (λ b. cond b (s ∷ trace steps object) (trace steps object)) (eq-eqb s.cell.object object e)

trace_off : (s : Step) (steps : List Step) (object : ℕ) → (s.cell.object ≡ object → ⊥) → trace (s ∷ steps) object ≡ trace steps object
unfolding trace
trace_off s steps object n = ap (λ b. cond b (s ∷ trace steps object) (trace steps object)) (ne_eqb s.cell.object object n)

-- a step leaves the cells of other objects
after_off : (s : Step) (contents : Contents) (cell : Cell) → (s.cell.object ≡ cell.object → ⊥) → contents_after s contents cell ≡ contents cell
after_off s contents cell n = ap (λ b. cond b s.value (contents cell)) (false_from_ne_true (s.write && same_cell s.cell cell) (λ e. n (ap (λ (c : Cell). c.object) (same_cell_is s.cell cell (and_parts _ _ e).1))))

after_agree : (s : Step) (object : ℕ) (contents other : Contents) → AgreeOn object contents other → AgreeOn object (contents_after s contents) (contents_after s other)
after_agree s object contents other h cell on = ap (λ n. cond (s.write && same_cell s.cell cell) s.value n) (h cell on)

pub traces_suffice : TracesSuffice
unfolding trace
traces_suffice contents other [] object agree reads = record { reads = tt; ends = agree; elsewhere = λ cell off. refl }
traces_suffice contents other (s ∷ steps) object agree reads = elim (cases_eq s.cell.object object) [
  | inl on ↦
      let h : TraceSuffices (contents_after s contents) (contents_after s other) steps object = traces_suffice (contents_after s contents) (contents_after s other) steps object (after_agree s object contents other agree) reads.1 in
      subst_to (s ∷ trace steps object) (sym (trace_on s steps object on))
      (λ is. reads.0 is ∙ agree s.cell on, h.reads)
      h.ends
      (λ cell off. h.elsewhere cell off ∙ after_off s other cell (λ e. off (sym e ∙ on)))
  | inr off ↦
      let agree_later : AgreeOn object (contents_after s contents) other = λ cell on. after_off s contents cell (λ e. off (e ∙ on)) ∙ agree cell on in
      let h : TraceSuffices (contents_after s contents) other steps object = traces_suffice (contents_after s contents) other steps object agree_later reads.1 in
      subst_to (trace steps object) (sym (trace_off s steps object off)) h.reads h.ends h.elsewhere
]
  where
    subst_to : (t : List Step) → t ≡ trace (s ∷ steps) object → ReadsGive other t → AgreeOn object (contents_after_all steps (contents_after s contents)) (contents_after_all t other) → ((cell : Cell) → (cell.object ≡ object → ⊥) → contents_after_all t other cell ≡ other cell) → TraceSuffices contents other (s ∷ steps) object
    subst_to t e reads_are ends_are elsewhere_are = record {
      reads = Rattle.std.proofs.Common.subst (ReadsGive other) e reads_are;
      ends = λ cell on. ends_are cell on ∙ ap (λ l. contents_after_all l other cell) e;
      elsewhere = λ cell away. ap (λ l. contents_after_all l other cell) (sym e) ∙ elsewhere_are cell away;
    }
