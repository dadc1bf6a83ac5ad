-- What the cells of a store hold once some are written, and steps gone through over a store.
use Rattle.std.proofs.Common.{◌≡◌, ℕ, Bool, true, false, cond, ◌&&◌, List, [], ◌∷◌, Option, sym, ap, subst, refl, ◌∙◌}
use Rattle.std.specs.Prelude.{unwrap_or, if◌then◌else◌}
use Rattle.std.specs.BTreeMap.{is_at}
use Rattle.std.proofs.lemmas.Bool.{both_ways}
use Rattle.ecf_lang.specs.declared.cell.Cell.{Cell}
use Rattle.ecf_lang.specs.declared.run.Step.{Step}
use Rattle.ecf_lang.specs.Store.{Store, Cells, IsRising, IsStore, cell_cmp, find_cell, read, set, with_writes}
use Rattle.ecf_stores.specs.OrderLaws.{is_at_itself, is_at_other}
use Rattle.ecf_stores.specs.PairLaws.{none_rises, set_keeps_rising, find_cell-set}
use Rattle.ecf_stores.specs.StoreLaws.{read_after_writes}
use Rattle.ecf_laws.specs.Replay.{after_step, after_steps, AreSeen}
use Rattle.ecf_verdicts.specs.Conflicts.{same_cell}
use Rattle.ecf_removed.specs.Contents.{Contents, contents_after, contents_after_all, ReadsGive}
use Rattle.ecf_removed.proofs.SwapLaws.{same_cell_is, same_cell_self}

-- the test that a look-up makes is that of conflicts
is_at-same_cell : (cell other : Cell) → is_at (cell_cmp cell) other ≡ same_cell cell other
is_at-same_cell cell other = by (same_cell cell other) refl
  where
    by : (same : Bool) → same_cell cell other ≡ same → is_at (cell_cmp cell) other ≡ same
    by true is = ap (is_at (cell_cmp cell)) (sym (same_cell_is cell other is)) ∙ is_at_itself cell
    by false is = is_at_other cell other (λ e. both_ways (same_cell cell other) is (ap (same_cell cell) e ∙ same_cell_self cell))

unwrap_or-cond : (b : Bool) (x y : Option ℕ) (d : ℕ) → unwrap_or (cond b x y) d ≡ cond b (unwrap_or x d) (unwrap_or y d)
unwrap_or-cond true x y d = refl
unwrap_or-cond false x y d = refl

-- the contents of a store with some cells written
abbrev pub contents_over : Store → Cells → Contents
contents_over store written cell = unwrap_or (find_cell written cell) (read store cell)

contents_over-after : (store : Store) (written : Cells) (step : Step) → contents_over store (after_step written step) ≡ contents_after step (contents_over store written)
contents_over-after store written step = λ i cell. by step.write cell i
  where
    by : (b : Bool) (cell : Cell) → unwrap_or (find_cell (if b then set written step.cell step.value else written) cell) (read store cell) ≡ (if b && same_cell step.cell cell then step.value else contents_over store written cell)
    by true cell = ap (λ o. unwrap_or o (read store cell)) (find_cell-set written step.cell step.value cell)
        ∙ unwrap_or-cond (is_at (cell_cmp step.cell) cell) _ (find_cell written cell) (read store cell)
        ∙ ap (λ b. cond b step.value (contents_over store written cell)) (is_at-same_cell step.cell cell)
    by false cell = refl

pub contents_over-after_all : (store : Store) (steps : List Step) (written : Cells) → contents_over store (after_steps written steps) ≡ contents_after_all steps (contents_over store written)
contents_over-after_all store [] written = refl
contents_over-after_all store (step ∷ steps) written = contents_over-after_all store steps (after_step written step) ∙ ap (contents_after_all steps) (contents_over-after store written step)

pub seen_from_reads : (store : Store) (steps : List Step) (written : Cells) → ReadsGive (contents_over store written) steps → AreSeen store written steps
seen_from_reads store [] written h = tt
seen_from_reads store (step ∷ steps) written h = (h.0, seen_from_reads store steps (after_step written step) (subst (λ k. ReadsGive k steps) (sym (contents_over-after store written step)) h.1))

pub reads_from_seen : (store : Store) (steps : List Step) (written : Cells) → AreSeen store written steps → ReadsGive (contents_over store written) steps
reads_from_seen store [] written h = tt
reads_from_seen store (step ∷ steps) written h = (h.0, subst (λ k. ReadsGive k steps) (contents_over-after store written step) (reads_from_seen store steps (after_step written step) h.1))

after_step_rises : (written : Cells) (step : Step) → IsRising written → IsRising (after_step written step)
after_step_rises written step h = by step.write
  where
    by : (b : Bool) → IsRising (if b then set written step.cell step.value else written)
    by true = set_keeps_rising written step.cell step.value h
    by false = h

after_steps_rise : (steps : List Step) (written : Cells) → IsRising written → IsRising (after_steps written steps)
after_steps_rise [] written h = h
after_steps_rise (step ∷ steps) written h = after_steps_rise steps (after_step written step) (after_step_rises written step h)

-- a store after the writes of steps holds what the steps leave
pub read-after_steps : (steps : List Step) (store : Store) → IsStore store → read (with_writes store (after_steps [] steps)) ≡ contents_after_all steps (read store)
read-after_steps steps store h =
    (λ i cell. read_after_writes store (after_steps [] steps) cell h (after_steps_rise steps [] none_rises) i) ∙ contents_over-after_all store steps []
