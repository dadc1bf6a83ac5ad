-- One step more keeps what is watched, and what it says of the trace.
use Rattle.std.proofs.Common.{◌≡◌, ◌≢◌, ℕ, ◌+◌, ◌<◌, ◌≤◌, Bool, true, false, not, cond, ◌&&◌, ◌||◌, ◌==◌, List, [], ◌∷◌, ◌++◌, length, get_or, slice_set, Option, Some, None, ◌⊎◌, refl, sym, ap, ◌∙◌, subst, arith, inl, inr, get_or-set_other, get_or-set_same}
use Rattle.std.specs.List.{list_any}
use Rattle.std.proofs.lemmas.Bool.{cases_Bool, both_ways, and_left, and_right}
use Rattle.std.proofs.lemmas.List.{get_or_past}
use Rattle.ecf_lang.specs.declared.cell.Cell.{Cell}
use Rattle.ecf_lang.specs.declared.run.Step.{Step}
use Rattle.ecf_verdicts.specs.Conflicts.{same_cell}
use Rattle.ecf_precedence.specs.Newest.{last_writer, readers_since, is_writer, adds_reduced, reduced}
use Rattle.ecf_graph.specs.Pairs.{joins}
use Rattle.ecf_graph.specs.Paths.{Reaches, one, more, IsAcyclic}
use Rattle.ecf_precedence.specs.NewestLemmas.{cell_from, cell_same, writer_other, writer_new, readers_other, readers_new, readers_gone, reduced_cases, lift}
use Rattle.ecf_graph.specs.PathLemmas.{chain}
use Rattle.ecf_graph.specs.Rows.{is_in_row}
use Rattle.ecf_conflict.specs.Numbering.{cell_number, IsPutIn}
use Rattle.ecf_graph.specs.RowLemmas.{in_row_past}
use Rattle.ecf_online.specs.Closure.{IsClosure}
use Rattle.ecf_online.specs.Pairs.{step_pairs}
use Rattle.ecf_online.specs.Reads.{blank, readers_of, reads_after, stand_in, watch_after}
use Rattle.ecf_online.specs.Watched.{IsFirstCycle, IsWatched, first_with, watch_of}
use Rattle.ecf_online.specs.declared.watch.Read.{Read}
use Rattle.ecf_online.specs.declared.watch.Watch.{Watch}
use Rattle.ecf_online.proofs.ClosureLaws.{closure_alike}
use Rattle.ecf_online.proofs.PairLaws.{joins_step}
use Rattle.ecf_online.proofs.ReadLaws.{back_more, back_new, back_none}

-- each new path goes through the step's invocation
through : (e : List Step) (s : Step) {a b : ℕ} → Reaches (reduced (s ∷ e)) a b → Reaches (reduced e) a b ⊎ (Reaches (reduced (s ∷ e)) a s.inv × ((b ≡ s.inv) ⊎ Reaches (reduced (s ∷ e)) s.inv b))
through e s {a} {b} (one h) = elim (reduced_cases e s a b h) [
  | inl p ↦ inr (subst (λ x. Reaches (reduced (s ∷ e)) a x) (sym p.0) (one h), inl (sym p.0))
  | inr p ↦ inl (one p)
]
through e s {a} {b} (more {j = m} h p) = go (through e s p)
  where
    go : Reaches (reduced e) m b ⊎ (Reaches (reduced (s ∷ e)) m s.inv × ((b ≡ s.inv) ⊎ Reaches (reduced (s ∷ e)) s.inv b)) → Reaches (reduced e) a b ⊎ (Reaches (reduced (s ∷ e)) a s.inv × ((b ≡ s.inv) ⊎ Reaches (reduced (s ∷ e)) s.inv b))
    go (inr (x, y)) = inr (more h x, y)
    go (inl q) = elim (reduced_cases e s a m h) [
      | inl k ↦ inr (subst (λ x. Reaches (reduced (s ∷ e)) a x) (sym k.0) (one h), inr (subst (λ x. Reaches (reduced (s ∷ e)) x b) (sym k.0) (lift e s m b q)))
      | inr k ↦ inl (more k q)
    ]

acyclic_step : (e : List Step) (s : Step) → IsAcyclic (reduced e) → (Reaches (reduced (s ∷ e)) s.inv s.inv → ⊥) → IsAcyclic (reduced (s ∷ e))
acyclic_step e s a n i p = elim (through e s p) [
  | inl q ↦ a i q
  | inr (x, y) ↦ elim y [
    | inl same ↦ n (subst (λ z. Reaches (reduced (s ∷ e)) z s.inv) same x)
    | inr q ↦ n (chain q x)
  ]
]

first_next : (e : List Step) (s : Step) (rows : List (List ℕ)) (count : ℕ) (first : Option ℕ) → IsClosure (reduced (s ∷ e)) rows → count ≡ length e → IsFirstCycle e first → IsFirstCycle (s ∷ e) (first_with first (is_in_row rows s.inv s.inv) (count + 1))
unfolding first_with
first_next e s rows count (Some k) c n f = (s ∷ f.0, f.1, f.2, record { parts = ap (λ l. s ∷ l) f.3.parts; size = f.3.size; none_before = f.3.none_before; closed = f.3.closed })
first_next e s rows count None c n f = go (is_in_row rows s.inv s.inv) refl
  where
    go : (b : Bool) → is_in_row rows s.inv s.inv ≡ b → IsFirstCycle (s ∷ e) (cond b (Some (count + 1)) None)
    go true h = ([], s, e, record { parts = refl; size = omega (arith, n); none_before = f; closed = c.sound s.inv s.inv h })
    go false h = acyclic_step e s f (λ p. both_ways _ h (c.whole s.inv s.inv p))

-- the pairs of a step with those before it
pub pairs_next : (e : List Step) (s : Step) (pairs : List (ℕ × ℕ)) (w : Option ℕ) (rs : List ℕ) → ((a b : ℕ) → joins pairs a b ≡ reduced e a b) → w ≡ last_writer e s.cell → rs ≡ readers_since e s.cell →
    (a b : ℕ) → joins (pairs ++ step_pairs w rs s.inv s.write) a b ≡ reduced (s ∷ e) a b
unfolding reduced adds_reduced
pairs_next e s pairs w rs p f g a b =
    joins_step pairs w rs s.inv s.write a b ∙
    (ap (λ x. ((s.inv == b) && (not (a == s.inv) && (is_writer w a || (s.write && list_any (λ x. x == a) rs)))) || x) (p a b) ∙
    (ap (λ x. ((s.inv == b) && (not (a == s.inv) && (is_writer x a || (s.write && list_any (λ x. x == a) rs)))) || reduced e a b) f ∙
    ap (λ l. ((s.inv == b) && (not (a == s.inv) && (is_writer (last_writer e s.cell) a || (s.write && list_any (λ x. x == a) l)))) || reduced e a b) g))

-- what is kept after a step
module _ (e : List Step) (s : Step) (cells cells' : List Cell) (watches watches1 : List Watch) (reads : List Read) (rows rows' : List (List ℕ)) (pairs : List (ℕ × ℕ)) (count k : ℕ) (first first' : Option ℕ)
    (h : IsWatched e cells watches reads rows pairs count first) (p : IsPutIn cells cells' s.cell) (n : k ≡ cell_number cells s.cell) (few : length watches ≤ length cells)
    (same : (m : ℕ) → get_or watches1 m blank ≡ get_or watches m blank) (at_k : k < length watches1)
    (in_log : (m : ℕ) → stand_in reads (get_or watches m blank).readers (get_or watches m blank).last ≡ true) where
  abbrev w : Watch
  w = get_or watches1 k blank

  old_watch : w ≡ watch_of cells watches s.cell
  old_watch = same k ∙ ap (λ x. get_or watches x blank) n

  pub old_writer : w.writer ≡ last_writer e s.cell
  old_writer = ap (λ (x : Watch). x.writer) old_watch ∙ h.writers_are s.cell

  pub old_readers : readers_of reads w ≡ readers_since e s.cell
  old_readers = ap (λ (x : Watch). readers_of reads x) old_watch ∙ h.readers_are s.cell

  old_log : stand_in reads w.readers w.last ≡ true
  old_log = ap (λ (x : Watch). stand_in reads x.readers x.last) (same k) ∙ in_log k

  not_same : (d : Cell) → same_cell d s.cell ≡ false → same_cell s.cell d ≡ false
  not_same d o = elim (cases_Bool (same_cell s.cell d)) [ inl y ↦ absurd (both_ways _ o (cell_same d s.cell (sym (cell_from s.cell d y)))) | inr x ↦ x ]

  -- another cell keeps what is kept of it
  kept : (d : Cell) (w' : Watch) → same_cell d s.cell ≡ false → watch_of cells' (slice_set watches1 k w') d ≡ watch_of cells watches d
  kept d w' o =
      let away : cell_number cells' d ≢ k = λ g. p.apart d o (g ∙ n) in
      get_or-set_other watches1 k (cell_number cells' d) w' blank away ∙ (same (cell_number cells' d) ∙ elim (p.others d o) [
        | inl g ↦ ap (λ x. get_or watches x blank) g
        | inr (a, b) ↦ (let l = p.longer in get_or_past watches (cell_number cells' d) blank (omega (arith, few, b, l)) ∙ sym (get_or_past watches (cell_number cells d) blank (omega (arith, few, a))))
      ])

  own : (d : Cell) (w' : Watch) → same_cell d s.cell ≡ true → watch_of cells' (slice_set watches1 k w') d ≡ w'
  own d w' y =
      let at : cell_number cells' d ≡ k = ap (cell_number cells') (cell_from d s.cell y) ∙ (p.own ∙ sym n) in
      ap (λ x. get_or (slice_set watches1 k w') x blank) at ∙ get_or-set_same watches1 k w' blank at_k

  writer_own : (d : Cell) (b : Bool) → s.cell ≡ d → s.write ≡ b → (watch_after w (length reads) s.inv b).writer ≡ last_writer (s ∷ e) d
  writer_own d true is wr = sym (writer_new s e d wr is)
  writer_own d false is wr = old_writer ∙ (ap (last_writer e) is ∙ sym (writer_other s e d (and_left s.write (same_cell s.cell d) wr)))

  readers_own : (d : Cell) (b : Bool) → s.cell ≡ d → s.write ≡ b → readers_of (reads_after reads w s.inv b) (watch_after w (length reads) s.inv b) ≡ readers_since (s ∷ e) d
  readers_own d true is wr = back_none reads 0 ∙ sym (readers_gone s e d wr is)
  readers_own d false is wr = back_new reads record { inv = s.inv; earlier = w.last } w.readers old_log ∙ (ap (λ l. s.inv ∷ l) (old_readers ∙ ap (readers_since e) is) ∙ sym (readers_new s e d wr is))

  readers_kept : (d : Cell) (b : Bool) → readers_of (reads_after reads w s.inv b) (watch_of cells watches d) ≡ readers_of reads (watch_of cells watches d)
  readers_kept d true = refl
  readers_kept d false = back_more reads record { inv = s.inv; earlier = w.last } _ _ (in_log (cell_number cells d))

  pub watched_next : IsClosure (joins (pairs ++ step_pairs w.writer (readers_of reads w) s.inv s.write)) rows' → first' ≡ first_with first (is_in_row rows' s.inv s.inv) (count + 1) →
      IsWatched (s ∷ e) cells' (slice_set watches1 k (watch_after w (length reads) s.inv s.write)) (reads_after reads w s.inv s.write) rows' (pairs ++ step_pairs w.writer (readers_of reads w) s.inv s.write) (count + 1) first'
  watched_next c f =
      let pairs_are = pairs_next e s pairs w.writer (readers_of reads w) h.pairs_are old_writer old_readers in
      let closure : IsClosure (reduced (s ∷ e)) rows' = closure_alike _ _ rows' pairs_are c in
      record {
        writers_are = λ d. elim (cases_Bool (same_cell d s.cell)) [
          | inl y ↦ ap (λ (x : Watch). x.writer) (own d _ y) ∙ writer_own d s.write (sym (cell_from d s.cell y)) refl
          | inr o ↦ ap (λ (x : Watch). x.writer) (kept d _ o) ∙ (h.writers_are d ∙ sym (writer_other s e d (and_right s.write _ (not_same d o))))
        ];
        readers_are = λ d. elim (cases_Bool (same_cell d s.cell)) [
          | inl y ↦ ap (λ (x : Watch). readers_of (reads_after reads w s.inv s.write) x) (own d _ y) ∙ readers_own d s.write (sym (cell_from d s.cell y)) refl
          | inr o ↦ ap (λ (x : Watch). readers_of (reads_after reads w s.inv s.write) x) (kept d _ o) ∙ (readers_kept d s.write ∙ (h.readers_are d ∙ sym (readers_other s e d (not_same d o))))
        ];
        pairs_are = pairs_are;
        closure = closure;
        counted = (let q = h.counted in omega (arith, q));
        first_is = subst (λ o. IsFirstCycle (s ∷ e) o) (sym f) (first_next e s rows' count first closure h.counted h.first_is);
      }

-- of nothing
pub watched_none : (cells : List Cell) (watches : List Watch) (reads : List Read) (rows : List (List ℕ)) (pairs : List (ℕ × ℕ)) → watches ≡ [] → rows ≡ [] → pairs ≡ [] → IsWatched [] cells watches reads rows pairs 0 None
unfolding last_writer readers_since reduced joins
watched_none cells watches reads rows pairs a b c =
    let none : ((d : Cell) → watch_of cells watches d ≡ blank) = λ d. get_or_past watches (cell_number cells d) blank (rw a (omega arith)) in
    record {
      writers_are = λ d. ap (λ (x : Watch). x.writer) (none d);
      readers_are = λ d. ap (λ (x : Watch). readers_of reads x) (none d) ∙ back_none reads 0;
      pairs_are = λ i j. rw c refl;
      closure = record { sound = λ x y h. absurd (both_ways _ (in_row_past rows y x (rw b (omega arith))) h); whole = λ x y p. absurd (no_path p) };
      counted = refl;
      first_is = λ i p. no_path p;
    }
  where
    no_path : {i j : ℕ} → Reaches (reduced []) i j → ⊥
    no_path (one e) = both_ways false refl e
    no_path (more e p) = both_ways false refl e
