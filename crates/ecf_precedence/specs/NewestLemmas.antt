-- What one step more changes of a cell's last writer and readers since, and which pairs it adds.
use Rattle.std.proofs.Common.{◌≡◌, ℕ, true, false, ◌&&◌, ◌==◌, if◌then◌else◌, Bool, List, [], ◌∷◌, Option, Some, None, ◌⊎◌, inl, inr, refl, sym, ap, ◌∙◌, subst}
use Rattle.std.proofs.lemmas.Bool.{both_ways, or_cases, or_right, and_parts, and_from, eqb-true, eq-eqb, not-true}
use Rattle.ecf_lang.specs.declared.cell.Cell.{Cell}
use Rattle.ecf_lang.specs.declared.run.Step.{Step}
use Rattle.ecf_graph.specs.PathLemmas.{wider}
use Rattle.ecf_graph.specs.Paths.{Reaches}
use Rattle.ecf_verdicts.specs.Conflicts.{same_cell}
use Rattle.ecf_verdicts.specs.ListLemmas.{In, Has_weaker, Has_from_any}
use Rattle.ecf_precedence.specs.Newest.{last_writer, readers_since, is_writer, adds_reduced, reduced}

abbrev cell : ℕ → ℕ → ℕ → Cell
cell o f k = record { object = o; field = f; key = k }

-- cells are one exactly where the test says so
pub cell_from : (a b : Cell) → same_cell a b ≡ true → a ≡ b
unfolding same_cell
cell_from a b e = let p = and_parts _ _ e in let q = and_parts _ _ p.1 in
    ap (λ n. cell n a.field a.key) (eqb-true a.object b.object p.0) ∙ (ap (λ n. cell b.object n a.key) (eqb-true a.field b.field q.0) ∙ ap (λ n. cell b.object b.field n) (eqb-true a.key b.key q.1))

pub cell_same : (a b : Cell) → a ≡ b → same_cell a b ≡ true
unfolding same_cell
cell_same a b e = and_from _ _ (eq-eqb _ _ (ap (λ (c : Cell). c.object) e)) (and_from _ _ (eq-eqb _ _ (ap (λ (c : Cell). c.field) e)) (eq-eqb _ _ (ap (λ (c : Cell). c.key) e)))

-- the last writer
pub writer_other : (s : Step) (e : List Step) (c : Cell) → (s.write && same_cell s.cell c) ≡ false → last_writer (s ∷ e) c ≡ last_writer e c
unfolding last_writer
writer_other s e c n = ap (λ b. if b then Some s.inv else last_writer e c) n

pub writer_new : (s : Step) (e : List Step) (c : Cell) → s.write ≡ true → s.cell ≡ c → last_writer (s ∷ e) c ≡ Some s.inv
unfolding last_writer
writer_new s e c w n = ap (λ b. if b then Some s.inv else last_writer e c) (and_from _ _ w (cell_same _ _ n))

-- the readers since
abbrev readers_by : Step → List ℕ → Bool → Bool → List ℕ
readers_by s earlier here write = if here then (if write then [] else s.inv ∷ earlier) else earlier

pub readers_other : (s : Step) (e : List Step) (c : Cell) → same_cell s.cell c ≡ false → readers_since (s ∷ e) c ≡ readers_since e c
unfolding readers_since
readers_other s e c n = ap (λ b. readers_by s (readers_since e c) b s.write) n

pub readers_new : (s : Step) (e : List Step) (c : Cell) → s.write ≡ false → s.cell ≡ c → readers_since (s ∷ e) c ≡ s.inv ∷ readers_since e c
unfolding readers_since
readers_new s e c w n = ap (λ b. readers_by s (readers_since e c) b s.write) (cell_same _ _ n) ∙ ap (λ b. readers_by s (readers_since e c) true b) w

pub readers_gone : (s : Step) (e : List Step) (c : Cell) → s.write ≡ true → s.cell ≡ c → readers_since (s ∷ e) c ≡ []
unfolding readers_since
readers_gone s e c w n = ap (λ b. readers_by s (readers_since e c) b s.write) (cell_same _ _ n) ∙ ap (λ b. readers_by s (readers_since e c) true b) w

-- between the test of a writer and its fact
pub is_writer_from : (o : Option ℕ) (i : ℕ) → is_writer o i ≡ true → o ≡ Some i
unfolding is_writer
is_writer_from None i e = absurd (both_ways false refl e)
is_writer_from (Some w) i e = ap (λ x. Some x) (eqb-true w i e)

pub writer_is : (o : Option ℕ) (i : ℕ) → o ≡ Some i → is_writer o i ≡ true
unfolding is_writer
writer_is o i e = subst (λ p. is_writer p i ≡ true) (sym e) (eq-eqb i i refl)

-- the reduced pairs
pub reduced_old : (e : List Step) (s : Step) (i j : ℕ) → reduced e i j ≡ true → reduced (s ∷ e) i j ≡ true
unfolding reduced
reduced_old e s i j h = or_right _ _ h

pub lift : (e : List Step) (s : Step) (i j : ℕ) → Reaches (reduced e) i j → Reaches (reduced (s ∷ e)) i j
lift e s i j p = wider (reduced_old e s) p

abbrev pub NewPair : List Step → Step → ℕ → Type 0
NewPair e s i = (i ≡ s.inv → ⊥) × ((last_writer e s.cell ≡ Some i) ⊎ ((s.write ≡ true) × In i (readers_since e s.cell)))

pub reduced_cases : (e : List Step) (s : Step) (i j : ℕ) → reduced (s ∷ e) i j ≡ true → ((s.inv ≡ j) × NewPair e s i) ⊎ (reduced e i j ≡ true)
unfolding reduced adds_reduced
reduced_cases e s i j h = elim (or_cases _ _ h) [
  | inl a ↦
      let p = and_parts _ _ a in
      let q = and_parts _ _ p.1 in
      let n : (i ≡ s.inv → ⊥) = λ x. both_ways _ (not-true _ q.0) (eq-eqb _ _ x) in
      inl (
        eqb-true _ _ p.0,
        (
          n,
          elim (or_cases _ _ q.1) [
            | inl w ↦ inl (is_writer_from _ _ w)
            | inr r ↦ (let f = and_parts _ _ r in inr (f.0, Has_weaker _ _ _ (λ x g. sym (eqb-true _ _ g)) (Has_from_any (λ x. x == i) _ f.1)))
          ],
        ),
      )
  | inr b ↦ inr b
]
