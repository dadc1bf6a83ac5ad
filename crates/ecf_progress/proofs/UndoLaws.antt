-- What is overwritten and put back.
use Rattle.std.proofs.Common.{◌≡◌, ℕ, zero, suc, ◌+◌, ◌<◌, ◌≤◌, Bool, true, false, cond, true≢false, List, [], ◌∷◌, ◌++◌, length, get_or, set, map, reverse, take, drop, Option, Some, None, IsSome, is_some, refl, ap, sym, subst, ◌∙◌, arith}
use Rattle.std.proofs.Math.Nat.{le_trans}
use Rattle.std.specs.Map.{set_value}
use Rattle.std.specs.Option.{option_to_list}
use Rattle.std.specs.BTreeMap.{is_at}
use Rattle.std.specs.List.Sorted.{IsStrictlySortedBy}
use Rattle.std.proofs.lemmas.Cmp.{eq_by_cmp_equiv}
use Rattle.std.proofs.lemmas.List.{take-append-le, drop-append-le, take-append-drop, reverse-append, length-append}
use Rattle.std.proofs.lemmas.Map.{lookup-set_value, keys-set_value}
use Rattle.ecf_lang.specs.declared.cell.Cell.{Cell}
use Rattle.ecf_lang.specs.declared.run.Step.{Step}
use Rattle.ecf_lang.specs.Store.{Store, Cells, IsRising, cell_cmp, find_cell}
use Rattle.ecf_lang.specs.Store as store_words
use Rattle.ecf_stores.specs.Pairs as pairs_words
use Rattle.ecf_stores.specs.OrderLaws.{cell_order_is_total}
use Rattle.ecf_stores.specs.PairLaws.{set_keeps_rising, find_cell-set, find_after_set, same_finds_same_pairs, put_back_undoes_set}
use Rattle.ecf_progress.specs.declared.state.Mark.{Mark}
use Rattle.ecf_progress.specs.Progress.{Savepoint, Backing, without_savepoint}
use Rattle.ecf_progress.specs.Undo.{put_back, before, savepoints_by, AreMarks}

-- what two parts of an undo list put back
pub before-append : (first later : List (Cell × Option ℕ)) (written : Cells) → before (first ++ later) written ≡ before first (before later written)
before-append [] later written = refl
before-append (one ∷ first) later written = ap (λ pairs. put_back pairs one.0 one.1) (before-append first later written)

-- a number for a cell that is there goes to its place
set_value_is_set : (pairs : Cells) (cell : Cell) (value : ℕ) → IsRising pairs → IsSome (find_cell pairs cell) → set_value (is_at (cell_cmp cell)) pairs value ≡ store_words.set pairs cell value
set_value_is_set pairs cell value rising there =
    same_finds_same_pairs (set_value (is_at (cell_cmp cell)) pairs value) (store_words.set pairs cell value)
    (subst (IsStrictlySortedBy cell_cmp) (sym (keys-set_value (is_at (cell_cmp cell)) pairs value)) rising)
    (set_keeps_rising pairs cell value rising)
    (λ other. lookup-set_value (eq_by_cmp_equiv cell_order_is_total) (is_at (cell_cmp cell)) (λ x y passes. (eq_by_cmp_equiv cell_order_is_total).congr cell x y passes) other value pairs there ∙ sym (find_cell-set pairs cell value other))

-- and one for a cell that isn't there nowhere
pub set_value_absent : (cell : Cell) (pairs : Cells) (value : ℕ) → find_cell pairs cell ≡ None → set_value (is_at (cell_cmp cell)) pairs value ≡ pairs
set_value_absent cell [] value absent = refl
set_value_absent cell (pair ∷ pairs) value absent = by (is_at (cell_cmp cell) pair.0) absent (set_value_absent cell pairs value)
  where
    by : (passes : Bool) → cond passes (Some pair.1) (find_cell pairs cell) ≡ None → (find_cell pairs cell ≡ None → set_value (is_at (cell_cmp cell)) pairs value ≡ pairs) →
        cond passes ((pair.0, value) ∷ pairs) (pair ∷ set_value (is_at (cell_cmp cell)) pairs value) ≡ pair ∷ pairs
    by true absent later = absurd (true≢false (ap is_some absent))
    by false absent later = ap (λ l. pair ∷ l) (later absent)

-- both words for what is put back mean the same for a cell that is there
same_put_back : (pairs : Cells) (cell : Cell) (was : Option ℕ) → IsRising pairs → IsSome (find_cell pairs cell) → put_back pairs cell was ≡ pairs_words.put_back pairs cell was
same_put_back pairs cell None rising there = refl
same_put_back pairs cell (Some value) rising there = set_value_is_set pairs cell value rising there

-- what is overwritten and put back is as before
pub overwritten_put_back : (pairs : Cells) (cell : Cell) (value : ℕ) → IsRising pairs → put_back (store_words.set pairs cell value) cell (find_cell pairs cell) ≡ pairs
overwritten_put_back pairs cell value rising =
    let there : IsSome (find_cell (store_words.set pairs cell value) cell) = rw (find_after_set pairs cell value).here refl in
    same_put_back (store_words.set pairs cell value) cell (find_cell pairs cell) (set_keeps_rising pairs cell value rising) there ∙ put_back_undoes_set pairs cell value rising

-- marks below higher bounds
pub AreMarks-wider : (marks : List Mark) (undo steps opened undo' steps' opened' : ℕ) → AreMarks marks undo steps opened → undo ≤ undo' → steps ≤ steps' → opened ≤ opened' → AreMarks marks undo' steps' opened'
AreMarks-wider [] undo steps opened undo' steps' opened' are more_undo more_steps more_opened = tt
AreMarks-wider (mark ∷ marks) undo steps opened undo' steps' opened' are more_undo more_steps more_opened =
    (le_trans are.0 more_undo, le_trans are.1 more_steps, le_trans are.2 more_opened, are.3)

-- what the marks go back to is the same, where what lies below them is
pub savepoints_same : (undo undo' : List (Cell × Option ℕ)) (written written' : Cells) (steps steps' : List Step) (marks : List Mark) (u s o : ℕ) → AreMarks marks u s o →
    ((n : ℕ) → n ≤ u → before (drop n undo) written ≡ before (drop n undo') written') → ((n : ℕ) → n ≤ s → take n steps ≡ take n steps') →
    savepoints_by undo written steps marks ≡ savepoints_by undo' written' steps' marks
savepoints_same undo undo' written written' steps steps' [] u s o are same_cells same_steps = refl
savepoints_same undo undo' written written' steps steps' (mark ∷ marks) u s o are same_cells same_steps =
    let outer = savepoints_same undo undo' written written' steps steps' marks mark.undo mark.steps mark.invocations are.3 (λ n below. same_cells n (le_trans below are.0)) (λ n below. same_steps n (le_trans below are.1)) in
    λ i. record { written = same_cells mark.undo are.0 i; steps = same_steps mark.steps are.1 i; opened = mark.invocations } ∷ outer i

-- one step more changes nothing that the marks go back to
pub savepoints-step : (undo : List (Cell × Option ℕ)) (written : Cells) (steps : List Step) (step : Step) (marks : List Mark) (u o : ℕ) → AreMarks marks u (length steps) o →
    savepoints_by undo written (steps ++ step ∷ []) marks ≡ savepoints_by undo written steps marks
savepoints-step undo written steps step marks u o are =
    savepoints_same undo undo written written (steps ++ step ∷ []) steps marks u (length steps) o are (λ n below. refl) (λ n below. take-append-le n steps (step ∷ []) below)

-- nor does a write, with what it overwrites on the undo list
pub savepoints-write : (undo : List (Cell × Option ℕ)) (written : Cells) (cell : Cell) (value : ℕ) (steps : List Step) (marks : List Mark) (o : ℕ) → IsRising written → AreMarks marks (length undo) (length steps) o →
    savepoints_by (undo ++ (cell, find_cell written cell) ∷ []) (store_words.set written cell value) steps marks ≡ savepoints_by undo written steps marks
savepoints-write undo written cell value steps marks o rising are =
    savepoints_same (undo ++ (cell, find_cell written cell) ∷ []) undo (store_words.set written cell value) written steps steps marks (length undo) (length steps) o are
    (λ n below.
    ap (λ list. before list (store_words.set written cell value)) (drop-append-le n undo ((cell, find_cell written cell) ∷ []) below)
    ∙ before-append (drop n undo) ((cell, find_cell written cell) ∷ []) (store_words.set written cell value)
    ∙ ap (before (drop n undo)) (overwritten_put_back written cell value rising))
    (λ n below. refl)

-- a list with one more is longer
pub grown : {X : Type 0} (list new : List X) (one : X) → new ≡ list ++ one ∷ [] → length list ≤ length new
grown list new one is = omega (arith, ap length is, length-append list (one ∷ []))

-- what is behind a run, with these savepoints
abbrev pub with_savepoints : Store → List Savepoint → Backing
with_savepoints store savepoints = record { store = store; savepoints = savepoints }

pub same_backing : (store : Store) (new old : List Savepoint) (backing : Backing) → new ≡ old → with_savepoints store old ≡ backing → with_savepoints store new ≡ backing
same_backing store new old backing same is = ap (with_savepoints store) same ∙ is

-- the first of the first
take_take : {X : Type 0} (n m : ℕ) (xs : List X) → n ≤ m → take n (take m xs) ≡ take n xs
take_take zero m xs below = refl
take_take (suc n) zero xs below = absurd (omega arith)
take_take (suc n) (suc m) [] below = refl
take_take (suc n) (suc m) (x ∷ xs) below = ap (λ l. x ∷ l) (take_take n m xs (omega arith))

-- what is dropped of the first, and what is behind them
drop_take : {X : Type 0} (n m : ℕ) (xs : List X) → n ≤ m → drop n (take m xs) ++ drop m xs ≡ drop n xs
drop_take zero m xs below = take-append-drop m xs
drop_take (suc n) zero xs below = absurd (omega arith)
drop_take (suc n) (suc m) [] below = refl
drop_take (suc n) (suc m) (x ∷ xs) below = drop_take n m xs (omega arith)

-- once a mark is gone back to, the others go back to what they did
pub savepoints-back : (undo : List (Cell × Option ℕ)) (written : Cells) (steps : List Step) (mark : Mark) (marks : List Mark) → AreMarks marks mark.undo mark.steps mark.invocations →
    savepoints_by (take mark.undo undo) (before (drop mark.undo undo) written) (take mark.steps steps) marks ≡ savepoints_by undo written steps marks
savepoints-back undo written steps mark marks are =
    savepoints_same (take mark.undo undo) undo (before (drop mark.undo undo) written) written (take mark.steps steps) steps marks mark.undo mark.steps mark.invocations are
    (λ n below.
    sym (before-append (drop n (take mark.undo undo)) (drop mark.undo undo) written)
    ∙ ap (λ list. before list written) (drop_take n mark.undo undo below))
    (λ n below. take_take n mark.steps steps below)

-- the marks without the innermost, if there is one
pub AreMarks-popped : (all rest : List Mark) (top : Option Mark) (u s o : ℕ) → all ≡ rest ++ option_to_list top → AreMarks (reverse all) u s o → AreMarks (reverse rest) u s o
AreMarks-popped all rest top u s o is are = by top (subst (λ marks. AreMarks marks u s o) (ap reverse is ∙ reverse-append rest (option_to_list top)) are)
  where
    by : (top : Option Mark) → AreMarks (reverse (option_to_list top) ++ reverse rest) u s o → AreMarks (reverse rest) u s o
    by None are = are
    by (Some mark) are = AreMarks-wider (reverse rest) mark.undo mark.steps mark.invocations u s o are.3 are.0 are.1 are.2

-- the marks, the innermost of them apart
pub reverse-popped : (all rest : List Mark) (mark : Mark) → all ≡ rest ++ mark ∷ [] → reverse all ≡ mark ∷ reverse rest
reverse-popped all rest mark is = ap reverse is ∙ reverse-append rest (mark ∷ [])

pub AreMarks-back : (all rest : List Mark) (mark : Mark) (u s o : ℕ) → all ≡ rest ++ mark ∷ [] → AreMarks (reverse all) u s o →
    (mark.undo ≤ u) × (mark.steps ≤ s) × (mark.invocations ≤ o) × AreMarks (reverse rest) mark.undo mark.steps mark.invocations
AreMarks-back all rest mark u s o is are = subst (λ marks. AreMarks marks u s o) (reverse-popped all rest mark is) are

-- one pair more that is put back
pub put_back-more : (len : ℕ) (undo shorter : List (Cell × Option ℕ)) (one : Cell × Option ℕ) (written : Cells) → len < length undo → undo ≡ shorter ++ one ∷ [] →
    (before (drop len undo) written ≡ before (drop len shorter) (put_back written one.0 one.1)) × (take len undo ≡ take len shorter)
put_back-more len undo shorter one written above is =
    let below : len ≤ length shorter = omega (arith, ap length is, length-append shorter (one ∷ [])) in (
      ap (λ list. before (drop len list) written) is ∙ ap (λ list. before list written) (drop-append-le len shorter (one ∷ []) below) ∙ before-append (drop len shorter) (one ∷ []) written,
      ap (take len) is ∙ take-append-le len shorter (one ∷ []) below,
    )

-- what is behind a run without its innermost try
pub without_popped : (store : Store) (undo : List (Cell × Option ℕ)) (written : Cells) (steps : List Step) (all rest : List Mark) (mark : Mark) (backing : Backing) → all ≡ rest ++ mark ∷ [] →
    with_savepoints store (savepoints_by undo written steps (reverse all)) ≡ backing → with_savepoints store (savepoints_by undo written steps (reverse rest)) ≡ without_savepoint backing
without_popped store undo written steps all rest mark backing is behind =
    ap (λ marks. without_savepoint (with_savepoints store (savepoints_by undo written steps marks))) (sym (reverse-popped all rest mark is)) ∙ ap without_savepoint behind

-- a list changed so far in place, each of its items by the same change
module _ {X : Type 0} (change : X → X) where
  pub mapped_more : (old now : List X) (i : ℕ) (d : X) → i < length old → i < length now → take i now ≡ map change (take i old) → drop i now ≡ drop i old →
      (take (suc i) (set now i (change (get_or now i d))) ≡ map change (take (suc i) old)) × (drop (suc i) (set now i (change (get_or now i d))) ≡ drop (suc i) old)
  mapped_more [] now i d within_old within_now done left = absurd (omega arith)
  mapped_more (x ∷ old) [] i d within_old within_now done left = absurd (omega arith)
  mapped_more (x ∷ old) (y ∷ now) zero d within_old within_now done left =
      let same : y ≡ x = cc in
      let others : now ≡ old = cc in
      (ap (λ z. change z ∷ []) same, others)
  mapped_more (x ∷ old) (y ∷ now) (suc i) d within_old within_now done left =
      let head : y ≡ change x = cc in
      let tail : take i now ≡ map change (take i old) = cc in
      let later = mapped_more old now i d (omega arith) (omega arith) tail left in
      (λ k. head k ∷ later.0 k, later.1)

  pub mapped_one_more : (old now : List X) (i : ℕ) (d : X) → i < length old → i < length now → take i now ≡ map change (take i old) → drop i now ≡ drop i old →
      (take (i + 1) (set now i (change (get_or now i d))) ≡ map change (take (i + 1) old)) × (drop (i + 1) (set now i (change (get_or now i d))) ≡ drop (i + 1) old)
  mapped_one_more old now i d within_old within_now done left =
      let next : suc i ≡ i + 1 = omega arith in
      subst (λ n. (take n (set now i (change (get_or now i d))) ≡ map change (take n old)) × (drop n (set now i (change (get_or now i d))) ≡ drop n old)) next (mapped_more old now i d within_old within_now done left)
