-- One step more keeps what is told of the steps read.
use Rattle.std.proofs.Common.{◌≡◌, ◌≢◌, ℕ, ◌<◌, ◌≤◌, Bool, true, false, ◌&&◌, ◌||◌, ◌==◌, if◌then◌else◌, List, [], ◌∷◌, ◌++◌, length, get_or, slice_set, refl, sym, ap, ◌∙◌, arith, inl, inr, length-set, not, subst}
use Rattle.std.specs.List.{list_any}
use Rattle.std.proofs.lemmas.Bool.{cases_Bool, cases_eq, both_ways, and_left, and_right, eq-eqb, ne_eqb}
use Rattle.std.proofs.lemmas.List.Folds.{list_any-append}
use Rattle.ecf_lang.specs.declared.cell.Cell.{Cell}
use Rattle.ecf_lang.specs.declared.run.Step.{Step}
use Rattle.ecf_graph.specs.Rows.{is_member}
use Rattle.ecf_verdicts.specs.Before.{before}
use Rattle.ecf_verdicts.specs.Conflicts.{conflicts, same_cell}
use Rattle.ecf_verdicts.specs.BeforeLemmas.{before_self}
use Rattle.ecf_verdicts.specs.SwapLemmas.{eqb_sym}
use Rattle.ecf_precedence.specs.Newest.{adds_pair}
use Rattle.ecf_precedence.specs.NewestLemmas.{cell_from, cell_same}
use Rattle.ecf_precedence.specs.Laws.{OneStepMore}
use Rattle.ecf_graph.specs.Rows.{is_in_row}
use Rattle.ecf_conflict.specs.Numbering.{cell_number, IsPutIn}
use Rattle.ecf_conflict.specs.Seen.{touches, writes, PutsStep, IsSeen}
use Rattle.ecf_graph.specs.RowLemmas.{in_row_past, in_row_same, in_row_other}

and_true : (x y : Bool) → y ≡ true → (x && y) ≡ x
and_true true y e = e
and_true false y e = refl

or_none : (x y : Bool) → y ≡ false → (x || y) ≡ x
or_none true y e = refl
or_none false y e = e

both : (a b c d : Bool) → a ≡ b → c ≡ d → (a || c) ≡ (b || d)
both a b c d f g = rw (f, g) refl

-- what a step touches and writes
touches_more : (t : List Step) (s : Step) (c : Cell) (i : ℕ) → touches (t ++ s ∷ []) c i ≡ (touches t c i || ((s.inv == i) && same_cell s.cell c))
unfolding touches
touches_more t s c i = list_any-append (λ u. (u.inv == i) && same_cell u.cell c) t (s ∷ []) ∙ both _ _ _ _ refl (or_none ((s.inv == i) && same_cell s.cell c) false refl)

writes_more : (t : List Step) (s : Step) (c : Cell) (i : ℕ) → writes (t ++ s ∷ []) c i ≡ (writes t c i || (s.write && ((s.inv == i) && same_cell s.cell c)))
unfolding writes
writes_more t s c i = list_any-append (λ u. u.write && ((u.inv == i) && same_cell u.cell c)) t (s ∷ []) ∙ both _ _ _ _ refl (or_none (s.write && ((s.inv == i) && same_cell s.cell c)) false refl)

-- which earlier steps conflict with a step, by what its cell's rows say
any_same : {X : Type 0} (p q : X → Bool) (xs : List X) → ((x : X) → p x ≡ q x) → list_any p xs ≡ list_any q xs
any_same p q [] e = refl
any_same p q (x ∷ xs) e = both (p x) (q x) (list_any p xs) (list_any q xs) (e x) (any_same p q xs e)

one_write : (u s : Step) (i : ℕ) → i ≢ s.inv → s.write ≡ true → ((u.inv == i) && conflicts u s) ≡ ((u.inv == i) && same_cell u.cell s.cell)
unfolding conflicts
one_write u s i n w = elim (cases_eq u.inv i) [
  | inl e ↦ (let m : (u.inv ≡ s.inv → ⊥) = λ f. n (sym e ∙ f) in rw (eq-eqb u.inv i e, ne_eqb u.inv s.inv m, w) (tidy (same_cell u.cell s.cell) u.write))
  | inr e ↦ rw (ne_eqb u.inv i e) refl
]
  where
    tidy : (a b : Bool) → (a && (b || true)) ≡ a
    tidy true true = refl
    tidy true false = refl
    tidy false b = refl

one_read : (u s : Step) (i : ℕ) → i ≢ s.inv → s.write ≡ false → ((u.inv == i) && conflicts u s) ≡ (u.write && ((u.inv == i) && same_cell u.cell s.cell))
unfolding conflicts
one_read u s i n w = elim (cases_eq u.inv i) [
  | inl e ↦ (let m : (u.inv ≡ s.inv → ⊥) = λ f. n (sym e ∙ f) in rw (eq-eqb u.inv i e, ne_eqb u.inv s.inv m, w) (tidy (same_cell u.cell s.cell) u.write))
  | inr e ↦ rw (ne_eqb u.inv i e) (none u.write)
]
  where
    tidy : (a b : Bool) → (a && (b || false)) ≡ (b && a)
    tidy true true = refl
    tidy true false = refl
    tidy false true = refl
    tidy false false = refl

    none : (b : Bool) → false ≡ (b && false)
    none true = refl
    none false = refl

adds_is : (t : List Step) (s : Step) (i : ℕ) → i ≢ s.inv → adds_pair t s i ≡ (if s.write then touches t s.cell i else writes t s.cell i)
unfolding adds_pair touches writes
adds_is t s i n = elim (cases_Bool s.write) [
  | inl w ↦ any_same _ _ t (λ u. one_write u s i n w) ∙ (rw w refl)
  | inr w ↦ any_same _ _ t (λ u. one_read u s i n w) ∙ (rw w refl)
]

-- the state after a step
pub reads_one : OneStepMore → (t : List Step) (s : Step) (cells cells' : List Cell) (touched written earlier touched1 written1 earlier1 : List (List ℕ)) (k : ℕ) (te tt' tw re rt rw' : List ℕ) →
    IsSeen t cells touched written earlier → IsPutIn cells cells' s.cell → k ≡ cell_number cells s.cell →
    ((m i : ℕ) → is_in_row touched1 m i ≡ is_in_row touched m i) → ((m i : ℕ) → is_in_row written1 m i ≡ is_in_row written m i) → ((m i : ℕ) → is_in_row earlier1 m i ≡ is_in_row earlier m i) →
    k < length touched1 → k < length written1 → s.inv < length earlier1 → length touched1 ≤ length cells' → length written1 ≤ length cells' →
    te ≡ get_or earlier1 s.inv [] → tt' ≡ get_or touched1 k [] → tw ≡ get_or written1 k [] →
    PutsStep s.inv s.write te tt' tw re rt rw' →
    IsSeen (t ++ s ∷ []) cells' (slice_set touched1 k rt) (slice_set written1 k rw') (slice_set earlier1 s.inv re)
unfolding is_in_row
reads_one one_step_more t s cells cells' touched written earlier touched1 written1 earlier1 k te tt' tw re rt rw' h p e same_t same_w same_e in_t in_w in_e few_t few_w is_e is_t is_w m =
    let old_t : (i : ℕ) → is_member tt' i ≡ touches t s.cell i = λ i. ap (λ r. is_member r i) is_t ∙ (same_t k i ∙ (ap (λ n. is_in_row touched n i) e ∙ h.touched_are s.cell i)) in
    let old_w : (i : ℕ) → is_member tw i ≡ writes t s.cell i = λ i. ap (λ r. is_member r i) is_w ∙ (same_w k i ∙ (ap (λ n. is_in_row written n i) e ∙ h.written_are s.cell i)) in
    record {
      touched_are = λ c i. elim (cases_Bool (same_cell c s.cell)) [
        | inl y ↦
            let is : c ≡ s.cell = cell_from c s.cell y in
            let at_k : cell_number cells' c ≡ k = ap (cell_number cells') is ∙ (p.own ∙ sym e) in
            in_row_same touched1 k (cell_number cells' c) i rt in_t at_k ∙ (m.touched_is i ∙ (ap (λ b. b || (i == s.inv)) (old_t i) ∙ (rw (is, eqb_sym i s.inv) (sym (touches_more t s s.cell i ∙ (rw (cell_same s.cell s.cell refl) (right (touches t s.cell i) (s.inv == i))))))))
        | inr n ↦
            let away : cell_number cells' c ≢ k = λ f. p.apart c n (f ∙ e) in
            in_row_other touched1 k (cell_number cells' c) i rt away ∙ (same_t (cell_number cells' c) i ∙ (kept touched h.touched_few c n i ∙ (h.touched_are c i ∙ sym (touches_more t s c i ∙ or_none _ _ (and_right _ _ (not_same c n))))))
      ];
      written_are = λ c i. elim (cases_Bool (same_cell c s.cell)) [
        | inl y ↦
            let is : c ≡ s.cell = cell_from c s.cell y in
            let at_k : cell_number cells' c ≡ k = ap (cell_number cells') is ∙ (p.own ∙ sym e) in
            in_row_same written1 k (cell_number cells' c) i rw' in_w at_k ∙ (m.written_is i ∙ (ap (λ b. b || (s.write && (i == s.inv))) (old_w i) ∙ (rw (is, eqb_sym i s.inv) (sym (writes_more t s s.cell i ∙ (rw (cell_same s.cell s.cell refl) (right2 (writes t s.cell i) s.write (s.inv == i))))))))
        | inr n ↦
            let away : cell_number cells' c ≢ k = λ f. p.apart c n (f ∙ e) in
            in_row_other written1 k (cell_number cells' c) i rw' away ∙ (same_w (cell_number cells' c) i ∙ (kept written h.written_few c n i ∙ (h.written_are c i ∙ sym (writes_more t s c i ∙ or_none _ _ (and_right _ _ (and_right _ _ (not_same c n)))))))
      ];
      touched_few = omega (arith, length-set touched1 k rt);
      written_few = omega (arith, length-set written1 k rw');
      earlier_are = λ i j. elim (cases_eq j s.inv) [
        | inl y ↦ elim (cases_eq i s.inv) [
          | inl z ↦ in_row_same earlier1 s.inv j i re in_e y ∙ (m.earlier_is i ∙ (and_right _ _ (ap not (eq-eqb i s.inv z)) ∙ sym (subst (λ x. before (t ++ s ∷ []) i x ≡ false) (z ∙ sym y) (before_self (t ++ s ∷ []) i))))
          | inr apart ↦
              let was : is_member te i ≡ before t i j = ap (λ r. is_member r i) is_e ∙ (same_e s.inv i ∙ (ap (λ x. is_in_row earlier x i) (sym y) ∙ h.earlier_are i j)) in
              let new : (if s.write then is_member tt' i else is_member tw i) ≡ adds_pair t s i = rw (old_t i, old_w i) (sym (adds_is t s i apart)) in
              let all : before (t ++ s ∷ []) i j ≡ (before t i j || adds_pair t s i) = one_step_more t s i j ∙ (rw (eq-eqb s.inv j (sym y)) refl) in
              in_row_same earlier1 s.inv j i re in_e y ∙ (m.earlier_is i ∙ (and_true _ _ (ap not (ne_eqb i s.inv apart)) ∙ (both _ _ _ _ was new ∙ sym all)))
        ]
        | inr a ↦ in_row_other earlier1 s.inv j i re a ∙ (same_e j i ∙ (h.earlier_are i j ∙ sym (one_step_more t s i j ∙ or_none _ _ (and_left _ _ (ne_eqb s.inv j (λ f. a (sym f)))))))
      ];
    }
  where
    right : (a b : Bool) → (a || (b && true)) ≡ (a || b)
    right true b = refl
    right false true = refl
    right false false = refl

    right2 : (a w b : Bool) → (a || (w && (b && true))) ≡ (a || (w && b))
    right2 true w b = refl
    right2 false false b = refl
    right2 false true true = refl
    right2 false true false = refl

    not_same : (c : Cell) → same_cell c s.cell ≡ false → same_cell s.cell c ≡ false
    not_same c n = elim (cases_Bool (same_cell s.cell c)) [ inl y ↦ absurd (both_ways _ n (cell_same c s.cell (sym (cell_from s.cell c y)))) | inr x ↦ x ]

    kept : (rows : List (List ℕ)) → length rows ≤ length cells → (c : Cell) → same_cell c s.cell ≡ false → (i : ℕ) → is_in_row rows (cell_number cells' c) i ≡ is_in_row rows (cell_number cells c) i
    kept rows few c n i = elim (p.others c n) [
      | inl f ↦ ap (λ x. is_in_row rows x i) f
      | inr (a, b) ↦ in_row_past rows (cell_number cells' c) i (omega (arith, few, b, p.longer)) ∙ sym (in_row_past rows (cell_number cells c) i (omega (arith, few, a)))
    ]

-- of no steps
pub IsSeen-none : (cells : List Cell) (touched written earlier : List (List ℕ)) → touched ≡ [] → written ≡ [] → earlier ≡ [] → IsSeen [] cells touched written earlier
unfolding touches writes before
IsSeen-none cells touched written earlier a b c = record {
  touched_are = λ d i. none touched a (cell_number cells d) i;
  written_are = λ d i. none written b (cell_number cells d) i;
  touched_few = rw a (omega arith);
  written_few = rw b (omega arith);
  earlier_are = λ i j. none earlier c j i;
}
  where
    none : (rows : List (List ℕ)) → rows ≡ [] → (k i : ℕ) → is_in_row rows k i ≡ false
    none rows e k i = in_row_past rows k i (rw e (omega arith))
