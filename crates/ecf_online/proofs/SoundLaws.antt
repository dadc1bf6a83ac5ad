-- What holds of the lists of each monitor stays, whatever step comes.
use Rattle.std.proofs.Common.{◌≡◌, ℕ, ◌+◌, ◌*◌, ◌<◌, ◌≤◌, Bool, true, false, max, if◌then◌else◌, List, [], ◌∷◌, ◌++◌, length, get_or, slice_set, Option, Some, None, sym, ap, ◌∙◌, subst, arith, inl, inr, get_or-set_other, get_or-set_same, length-set}
use Rattle.std.specs.List.{sum_by}
use Rattle.std.proofs.lemmas.Bool.{both_ways, cases_eq, cases_lt}
use Rattle.std.proofs.lemmas.List.{get_or_append_left, get_or_past, length-append}
use Rattle.std.proofs.lemmas.List.Sums.{sum_by-set}
use Rattle.std.proofs.Math.Seq.{get_or-append_seam}
use Rattle.ecf_graph.specs.Rows.{is_member}
use Rattle.ecf_graph.specs.RowLemmas.{in_row_past}
use Rattle.ecf_lang.specs.declared.cell.Cell.{Cell}
use Rattle.ecf_online.specs.Closure.{HasRoomForAll, HoldsReaching, IsReady, IsShaped}
use Rattle.ecf_online.specs.Reads.{blank, read_at, reads_after, stand_in, watch_after}
use Rattle.ecf_online.specs.Sound.{IsSound}
use Rattle.ecf_online.specs.Widening.{IsWide, Widens}
use Rattle.ecf_online.specs.declared.limits.TheConstants.{MAX_STEPS}
use Rattle.ecf_online.specs.declared.watch.Read.{Read}
use Rattle.ecf_online.specs.declared.watch.Watch.{Watch}
use Rattle.ecf_online.proofs.ClosureLaws.{ready_same, ready_within, reaching_same}
use Rattle.ecf_online.proofs.ReadLaws.{stands_more, stands_new, stands_none}

abbrev pub count_of : Watch → ℕ
count_of w = w.readers

pub wide_shaped : (rows : List (List ℕ)) (seen : List ℕ) (width : ℕ) → IsWide rows seen width → IsShaped rows
wide_shaped rows seen width w = record {
  members = w.members;
  wide = λ k a p q. (let l = w.wide k p in let m = w.own a q in omega (arith, l, m));
}

-- a set as wide has room for all
pub room_wide : (rows : List (List ℕ)) (seen set : List ℕ) (width : ℕ) → IsWide rows seen width → width ≤ length set → HasRoomForAll rows set
room_wide rows seen set width w h a p = (let l = w.own a p in omega (arith, l, h))

-- those that reach any, in rows made wider
pub reaching_wider : (rows rows' : List (List ℕ)) (seen seen' : List ℕ) (width width' : ℕ) (set set' : List ℕ) → Widens rows seen width rows' seen' width' → ((a : ℕ) → is_member set' a ≡ is_member set a) → HoldsReaching rows set → HoldsReaching rows' set'
reaching_wider rows rows' seen seen' width width' set set' w same h = reaching_same rows rows' set set' w.same same h

-- rows as wide as before
pub wide_same : (old new : List (List ℕ)) (seen seen' : List ℕ) (width : ℕ) → ((b : ℕ) → length (get_or new b []) ≡ length (get_or old b [])) → IsShaped new → length seen' ≡ length seen → IsWide old seen width → IsWide new seen' width
wide_same old new seen seen' width words shaped s w = record {
  wide = λ b p. (let e = words b in let l = w.wide b (omega (arith, p, e)) in omega (arith, l, e));
  own = λ b p. (let e = words b in w.own b (omega (arith, p, e)));
  members = shaped.members;
  set = (let l = w.set in omega (arith, l, s));
}

-- one cell has at most as many readers as all
pub count_below : (watches : List Watch) (k : ℕ) → k < length watches → (get_or watches k blank).readers ≤ sum_by count_of watches
count_below watches k h = let e = sum_by-set count_of watches k blank blank h in omega (arith, e)

pub sound_wider : (cells : List Cell) (watches : List Watch) (reads : List Read) (rows rows' : List (List ℕ)) (pairs : List (ℕ × ℕ)) (seen seen' : List ℕ) (width width' count : ℕ) →
    Widens rows seen width rows' seen' width' → IsSound cells watches reads rows pairs seen width count → IsSound cells watches reads rows' pairs seen' width' count
sound_wider cells watches reads rows rows' pairs seen seen' width width' count w s = record {
  watches_few = s.watches_few;
  cells_few = s.cells_few;
  reads_few = s.reads_few;
  steps_few = s.steps_few;
  pairs_few = s.pairs_few;
  in_log = s.in_log;
  writers = λ k i e. w.ready i (s.writers k i e);
  readers = λ k l. w.ready (read_at reads k).inv (s.readers k l);
  wide = w.wide s.wide;
}

none_some : (o : Option ℕ) (i : ℕ) → o ≡ None → o ≡ Some i → ⊥
none_some o i e f = cc

-- of nothing
pub sound_none : (cells : List Cell) (watches : List Watch) (reads : List Read) (rows : List (List ℕ)) (pairs : List (ℕ × ℕ)) (seen : List ℕ) → cells ≡ [] → watches ≡ [] → reads ≡ [] → rows ≡ [] → pairs ≡ [] → IsSound cells watches reads rows pairs seen 0 0
sound_none cells watches reads rows pairs seen no_cells no_watches no_reads no_rows no_pairs =
    let none : ((k : ℕ) → get_or watches k blank ≡ blank) = λ k. get_or_past watches k blank (let e : length watches ≡ 0 = ap (λ l. length l) no_watches in omega (arith, e)) in
    let reads_none : length reads ≡ 0 = ap (λ l. length l) no_reads in
    let pairs_none : length pairs ≡ 0 = ap (λ l. length l) no_pairs in
    let rows_none : length rows ≡ 0 = ap (λ l. length l) no_rows in
    let sum_none : sum_by count_of watches ≡ 0 = ap (λ l. sum_by count_of l) no_watches in
    record {
      watches_few = (let e : length watches ≡ 0 = ap (λ l. length l) no_watches in omega (arith, e));
      cells_few = (let e : length cells ≡ 0 = ap (λ l. length l) no_cells in omega (arith, e));
      reads_few = omega (arith, reads_none);
      steps_few = omega arith;
      pairs_few = omega (arith, pairs_none, sum_none);
      in_log = λ k. ap (λ (w : Watch). stand_in reads w.readers w.last) (none k) ∙ stands_none reads 0;
      writers = λ k i e. absurd (none_some (get_or watches k blank).writer i (ap (λ (w : Watch). w.writer) (none k)) e);
      readers = λ k h. absurd (omega (arith, h, reads_none));
      wide = record {
        wide = λ b p. omega arith;
        own = λ b p. (let l = ready_within rows b p in absurd (omega (arith, l, rows_none)));
        members = λ b a e. absurd (both_ways _ (in_row_past rows b a (omega (arith, rows_none))) e);
        set = omega arith;
      };
    }

-- the lists after a step
module _ (cells cells' : List Cell) (watches watches1 : List Watch) (reads : List Read) (rows rows' : List (List ℕ)) (pairs pairs' : List (ℕ × ℕ)) (seen seen' : List ℕ) (width count k inv : ℕ) (write : Bool)
    (s : IsSound cells watches reads rows pairs seen width count)
    (few : count + 1 ≤ MAX_STEPS) (longer : length cells ≤ length cells') (one_more : length cells' ≤ length cells + 1)
    (same : (m : ℕ) → get_or watches1 m blank ≡ get_or watches m blank) (long : length watches1 ≡ max (length cells') (length watches)) (sum : sum_by count_of watches1 ≡ sum_by count_of watches)
    (at_k : k < length watches1)
    (more : length pairs' ≤ length pairs + 1 + (if write then (get_or watches1 k blank).readers else 0))
    (words : (b : ℕ) → length (get_or rows' b []) ≡ length (get_or rows b [])) (shaped : IsShaped rows') (seen_words : length seen' ≡ length seen) (ready : IsReady rows inv) where
  abbrev w : Watch
  w = get_or watches1 k blank

  abbrev w' : Watch
  w' = watch_after w (length reads) inv write

  old_log : stand_in reads w.readers w.last ≡ true
  old_log = ap (λ (x : Watch). stand_in reads x.readers x.last) (same k) ∙ s.in_log k

  reads_grow : (b : Bool) → length (reads_after reads w inv b) ≤ length reads + 1
  reads_grow true = omega arith
  reads_grow false = let e = length-append reads (record { inv = inv; earlier = w.last } ∷ []) in omega (arith, e)

  in_log_old : (b : Bool) (n place : ℕ) → stand_in reads n place ≡ true → stand_in (reads_after reads w inv b) n place ≡ true
  in_log_old true n place h = h
  in_log_old false n place h = stands_more reads record { inv = inv; earlier = w.last } n place h

  in_log_new : (b : Bool) → stand_in (reads_after reads w inv b) (watch_after w (length reads) inv b).readers (watch_after w (length reads) inv b).last ≡ true
  in_log_new true = stands_none reads 0
  in_log_new false = stands_new reads record { inv = inv; earlier = w.last } w.readers old_log

  some_same : (a b : ℕ) → Some a ≡ Some b → a ≡ b
  some_same a b e = cc

  writer_ready : (b : Bool) (i : ℕ) → (watch_after w (length reads) inv b).writer ≡ Some i → IsReady rows i
  writer_ready true i e = subst (λ x. IsReady rows x) (some_same inv i e) ready
  writer_ready false i e = s.writers k i (ap (λ (x : Watch). x.writer) (sym (same k)) ∙ e)

  reader_ready : (b : Bool) (m : ℕ) → m < length (reads_after reads w inv b) → IsReady rows (read_at (reads_after reads w inv b) m).inv
  reader_ready true m h = s.readers m h
  reader_ready false m h = elim (cases_lt m (length reads)) [
    | inl l ↦ subst (λ (x : Read). IsReady rows x.inv) (sym (get_or_append_left reads (record { inv = inv; earlier = w.last } ∷ []) record { inv = 0; earlier = 0 } m l)) (s.readers m l)
    | inr g ↦
        let len = length-append reads (record { inv = inv; earlier = w.last } ∷ []) in
        let e : m ≡ length reads = omega (arith, g, h, len) in
        subst (λ x. IsReady rows (read_at (reads ++ record { inv = inv; earlier = w.last } ∷ []) x).inv) (sym e)
        (subst (λ (x : Read). IsReady rows x.inv) (sym (get_or-append_seam reads record { inv = inv; earlier = w.last } [] record { inv = 0; earlier = 0 })) ready)
  ]

  counted : (b : Bool) (p : ℕ) → p ≤ length pairs + 1 + (if b then w.readers else 0) → p + sum_by count_of (slice_set watches1 k (watch_after w (length reads) inv b)) ≤ 2 * (count + 1)
  counted true p h =
      let e = sum_by-set count_of watches1 k (watch_after w (length reads) inv true) blank at_k in
      let l = s.pairs_few in
      omega (arith, e, l, sum, h)
  counted false p h =
      let e = sum_by-set count_of watches1 k (watch_after w (length reads) inv false) blank at_k in
      let l = s.pairs_few in
      omega (arith, e, l, sum, h)

  pub sound_next : IsSound cells' (slice_set watches1 k w') (reads_after reads w inv write) rows' pairs' seen' width (count + 1)
  sound_next = record {
    watches_few = (let e = length-set watches1 k w' in let l = s.watches_few in omega (arith, e, l, long, longer));
    cells_few = (let l = s.cells_few in omega (arith, l, one_more));
    reads_few = (let l = s.reads_few in let g = reads_grow write in omega (arith, l, g));
    steps_few = few;
    pairs_few = counted write (length pairs') more;
    in_log = λ m. elim (cases_eq m k) [
      | inl e ↦ subst (λ (x : Watch). stand_in (reads_after reads w inv write) x.readers x.last ≡ true) (sym (ap (λ x. get_or (slice_set watches1 k w') x blank) e ∙ get_or-set_same watches1 k w' blank at_k)) (in_log_new write)
      | inr n ↦ subst (λ (x : Watch). stand_in (reads_after reads w inv write) x.readers x.last ≡ true) (sym (get_or-set_other watches1 k m w' blank n ∙ same m)) (in_log_old write _ _ (s.in_log m))
    ];
    writers = λ m i f. elim (cases_eq m k) [
      | inl e ↦ ready_same rows rows' words i (writer_ready write i (ap (λ (x : Watch). x.writer) (sym (ap (λ x. get_or (slice_set watches1 k w') x blank) e ∙ get_or-set_same watches1 k w' blank at_k)) ∙ f))
      | inr n ↦ ready_same rows rows' words i (s.writers m i (ap (λ (x : Watch). x.writer) (sym (get_or-set_other watches1 k m w' blank n ∙ same m)) ∙ f))
    ];
    readers = λ m h. ready_same rows rows' words _ (reader_ready write m h);
    wide = wide_same rows rows' seen seen' width words shaped seen_words s.wide;
  }
