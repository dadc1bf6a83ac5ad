-- Pairs after a cell is set or removed: that they rise, and what is found among them.
use Rattle.std.proofs.Common.{◌≡◌, ℕ, Bool, true, false, cond, is_some, ◌≢◌, List, [], ◌∷◌, Option, Some, None, unwrap_or, refl, sym, ap, ◌∙◌, true≢false, Ordering, Less, Equal, Greater, is_eq}
use Rattle.std.specs.List.{AllByRecursion}
use Rattle.std.specs.List.Sorted.{IsStrictlySortedBy}
use Rattle.std.specs.Ordering.{ordering_reverse, match_ordering}
use Rattle.std.specs.Map.{keys_of}
use Rattle.std.specs.BTreeMap.{is_at}
use Rattle.std.proofs.lemmas.Cmp.{eq_by_cmp_equiv}
use Rattle.std.proofs.lemmas.List.Elements.{All-cons, All-weaker, All-from_recursion, recursion_from_All}
use Rattle.std.proofs.lemmas.Map.{lookup-remove_entry}
use Rattle.std.proofs.lemmas.Map.Keys.{IsDistinct-from_sorted}
use Rattle.std.proofs.lemmas.Map.Views.{All-keys-insert_entry, All-map-remove_entry}
use Rattle.ecf_lang.specs.declared.cell.Cell.{Cell}
use Rattle.ecf_lang.specs.Store.{Cells, cell_cmp, IsRising, find_cell, set}
use Rattle.ecf_stores.specs.Pairs.{remove_cell, put_back}
use Rattle.ecf_stores.specs.Laws.{SetKeepsRising, RemovalKeepsRising, FindAfterSet, FindAfterRemoval, PutBackUndoesSet, SameFindsSamePairs}
use Rattle.ecf_stores.specs.OrderLaws.{cell_order_is_total, cell_order_is_exact, is_at_itself, is_at_same, is_at_other, is_at_back}

-- the cell is below each of these
abbrev IsBelowAll : Cell → List Cell → Type 0
IsBelowAll cell cells = AllByRecursion (λ other. cell_cmp cell other ≡ Less) cells

pub none_rises : IsRising []
unfolding IsStrictlySortedBy
none_rises = tt

-- what is below a first cell is below all later ones
below_all : (cell first : Cell) (others : List Cell) → cell_cmp cell first ≡ Less → IsBelowAll first others → IsBelowAll cell (first ∷ others)
below_all cell first others below later = recursion_from_All (λ y. cell_cmp cell y ≡ Less) (first ∷ others)
    (All-cons (λ y. cell_cmp cell y ≡ Less) first others below (All-weaker (λ y. cell_cmp first y ≡ Less) (λ y. cell_cmp cell y ≡ Less) (λ y above. cell_order_is_total.trans cell first y below above) others (All-from_recursion (λ y. cell_cmp first y ≡ Less) others later)))

pub set_keeps_rising : SetKeepsRising
unfolding IsStrictlySortedBy
set_keeps_rising [] cell value rising = (tt, tt)
set_keeps_rising (e ∷ es) cell value rising = by (cell_cmp cell e.0) refl (set_keeps_rising es cell value rising.1)
  where
    by : (order : Ordering) → cell_cmp cell e.0 ≡ order → IsRising (set es cell value) → IsRising (match_ordering order ((cell, value) ∷ e ∷ es) ((e.0, value) ∷ es) (e ∷ set es cell value))
    by Less is later = (below_all cell e.0 (keys_of es) is rising.0, rising)
    by Equal is later = rising
    by Greater is later = (recursion_from_All (λ y. cell_cmp e.0 y ≡ Less) _ (All-keys-insert_entry cell_cmp cell value (λ y. cell_cmp e.0 y ≡ Less) es (All-from_recursion (λ y. cell_cmp e.0 y ≡ Less) _ rising.0) (cell_order_is_total.antisymm e.0 cell ∙ ap ordering_reverse is)), later)

pub removal_keeps_rising : RemovalKeepsRising
unfolding IsStrictlySortedBy
removal_keeps_rising [] cell rising = tt
removal_keeps_rising (e ∷ es) cell rising = by (is_at (cell_cmp cell) e.0) (removal_keeps_rising es cell rising.1)
  where
    by : (passes : Bool) → IsRising (remove_cell es cell) → IsRising (cond passes es (e ∷ remove_cell es cell))
    by true later = rising.1
    by false later = (recursion_from_All (λ y. cell_cmp e.0 y ≡ Less) _ (All-map-remove_entry (is_at (cell_cmp cell)) (λ p. p.0) (λ y. cell_cmp e.0 y ≡ Less) es (All-from_recursion (λ y. cell_cmp e.0 y ≡ Less) (keys_of es) rising.0)), later)

-- nothing is found below all cells
pub none_found : (cell : Cell) (pairs : Cells) → AllByRecursion (λ other. cell_cmp cell other ≡ Less) (keys_of pairs) → find_cell pairs cell ≡ None
none_found cell [] below = refl
none_found cell (e ∷ es) below = ap (λ o. cond (is_eq o) (Some e.1) (find_cell es cell)) below.0 ∙ none_found cell es below.1

-- of two tests that don't both pass, either may come first
either_first : {X : Type 0} (a b : Bool) (x y z : X) → (a ≡ true → b ≡ false) → cond b y (cond a x z) ≡ cond a x (cond b y z)
either_first true true x y z apart = absurd (true≢false (apart refl))
either_first true false x y z apart = refl
either_first false b x y z apart = refl

-- of two tests with one answer the second asks nothing
asks_once : {X : Type 0} (a b : Bool) (x y z : X) → b ≡ a → cond b x z ≡ cond a x (cond b y z)
asks_once true true x y z same = refl
asks_once true false x y z same = absurd (true≢false (sym same))
asks_once false true x y z same = absurd (true≢false same)
asks_once false false x y z same = refl

-- a cell that passes one cell's test fails that of a cell apart from it
fails_other : (cell other q : Cell) → is_at (cell_cmp cell) other ≡ false → is_at (cell_cmp cell) q ≡ true → is_at (cell_cmp q) other ≡ false
fails_other cell other q apart passes = sym ((eq_by_cmp_equiv cell_order_is_total).congr cell q other passes) ∙ apart

-- what is found once a cell is set, by the test of the cell
pub find_cell-set : (pairs : Cells) (cell : Cell) (value : ℕ) (other : Cell) → find_cell (set pairs cell value) other ≡ cond (is_at (cell_cmp cell) other) (Some value) (find_cell pairs other)
find_cell-set [] cell value other = ap (λ b. cond b (Some value) None) (is_at_back other cell)
find_cell-set (e ∷ es) cell value other = by (cell_cmp cell e.0) refl (find_cell-set es cell value other)
  where
    by : (order : Ordering) → cell_cmp cell e.0 ≡ order → find_cell (set es cell value) other ≡ cond (is_at (cell_cmp cell) other) (Some value) (find_cell es other) →
        find_cell (match_ordering order ((cell, value) ∷ e ∷ es) ((e.0, value) ∷ es) (e ∷ set es cell value)) other ≡ cond (is_at (cell_cmp cell) other) (Some value) (find_cell (e ∷ es) other)
    by Less is later = ap (λ b. cond b (Some value) (find_cell (e ∷ es) other)) (is_at_back other cell)
    by Equal is later = asks_once (is_at (cell_cmp cell) other) (is_at (cell_cmp other) e.0) (Some value) (Some e.1) (find_cell es other) (ap (is_at (cell_cmp other)) (sym (cell_order_is_exact cell e.0 is)) ∙ is_at_back other cell)
    by Greater is later = ap (λ o. cond (is_at (cell_cmp other) e.0) (Some e.1) o) later
        ∙ either_first (is_at (cell_cmp cell) other) (is_at (cell_cmp other) e.0) (Some value) (Some e.1) (find_cell es other) (fails_other cell e.0 other (ap is_eq is))

-- what is found among rising pairs without a cell, by the test of the cell
pub find_cell-remove_cell : (pairs : Cells) (cell other : Cell) → IsRising pairs → find_cell (remove_cell pairs cell) other ≡ cond (is_at (cell_cmp cell) other) None (find_cell pairs other)
find_cell-remove_cell pairs cell other rising =
    lookup-remove_entry (eq_by_cmp_equiv cell_order_is_total) (is_at (cell_cmp cell)) (λ x y passes. (eq_by_cmp_equiv cell_order_is_total).congr cell x y passes) other pairs (IsDistinct-from_sorted cell_cmp _ rising)

pub find_after_set : FindAfterSet
find_after_set pairs cell value = record {
  here = find_cell-set pairs cell value cell ∙ ap (λ b. cond b (Some value) (find_cell pairs cell)) (is_at_itself cell);
  others = λ other differ. find_cell-set pairs cell value other ∙ ap (λ b. cond b (Some value) (find_cell pairs other)) (is_at_other cell other differ);
}

pub find_after_removal : FindAfterRemoval
find_after_removal pairs cell rising = record {
  here = find_cell-remove_cell pairs cell cell rising ∙ ap (λ b. cond b None (find_cell pairs cell)) (is_at_itself cell);
  others = λ other differ. find_cell-remove_cell pairs cell other rising ∙ ap (λ b. cond b None (find_cell pairs other)) (is_at_other cell other differ);
}

-- the first pair is found by its cell, and no later one
found_first : (e : Cell × ℕ) (es : Cells) (cell : Cell) → cell ≡ e.0 → find_cell (e ∷ es) cell ≡ Some e.1
found_first e es cell same = ap (λ b. cond b (Some e.1) (find_cell es cell)) (ap (is_at (cell_cmp cell)) (sym same) ∙ is_at_itself cell)

none_later : (e : Cell × ℕ) (es : Cells) (cell : Cell) → cell ≡ e.0 → IsRising (e ∷ es) → find_cell es cell ≡ None
unfolding IsStrictlySortedBy
none_later e es cell same rising = ap (find_cell es) same ∙ none_found e.0 es rising.0

-- nothing is found below a first cell
none_before : (e : Cell × ℕ) (es : Cells) (cell : Cell) → cell_cmp cell e.0 ≡ Less → IsRising (e ∷ es) → find_cell (e ∷ es) cell ≡ None
unfolding IsStrictlySortedBy
none_before e es cell below rising = none_found cell (e ∷ es) (below_all cell e.0 (keys_of es) below rising.0)

later_rises : (e : Cell × ℕ) (es : Cells) → IsRising (e ∷ es) → IsRising es
unfolding IsStrictlySortedBy
later_rises e es rising = rising.1

not_both : (value : ℕ) → Some value ≢ None
not_both value same = true≢false (ap is_some same)

module _ (x y : Cell × ℕ) (xs ys : Cells) (rising_x : IsRising (x ∷ xs)) (rising_y : IsRising (y ∷ ys)) (alike : (cell : Cell) → find_cell (x ∷ xs) cell ≡ find_cell (y ∷ ys) cell) where
  same_cells : x.0 ≡ y.0
  same_cells = by (cell_cmp x.0 y.0) refl
    where
      by : (order : Ordering) → cell_cmp x.0 y.0 ≡ order → x.0 ≡ y.0
      by Less is = absurd (not_both x.1 (sym (found_first x xs x.0 refl) ∙ alike x.0 ∙ none_before y ys x.0 is rising_y))
      by Equal is = cell_order_is_exact x.0 y.0 is
      by Greater is = absurd (not_both y.1 (sym (found_first y ys y.0 refl) ∙ sym (alike y.0) ∙ none_before x xs y.0 (cell_order_is_total.antisymm y.0 x.0 ∙ ap ordering_reverse is) rising_x))

  same_values : x.1 ≡ y.1
  same_values = ap (λ o. unwrap_or o x.1) (sym (found_first x xs x.0 refl) ∙ alike x.0 ∙ found_first y ys x.0 same_cells)

  alike_later : (cell : Cell) → find_cell xs cell ≡ find_cell ys cell
  alike_later cell = by (is_at (cell_cmp cell) x.0) refl
    where
      by : (passes : Bool) → is_at (cell_cmp cell) x.0 ≡ passes → find_cell xs cell ≡ find_cell ys cell
      by true same = none_later x xs cell (is_at_same cell x.0 same) rising_x ∙ sym (none_later y ys cell (is_at_same cell x.0 same ∙ same_cells) rising_y)
      by false apart = sym (ap (λ b. cond b (Some x.1) (find_cell xs cell)) apart) ∙ alike cell ∙ ap (λ b. cond b (Some y.1) (find_cell ys cell)) (ap (is_at (cell_cmp cell)) (sym same_cells) ∙ apart)

pub same_finds_same_pairs : SameFindsSamePairs
same_finds_same_pairs [] [] rising_x rising_y alike = refl
same_finds_same_pairs [] (y ∷ ys) rising_x rising_y alike = absurd (not_both y.1 (sym (found_first y ys y.0 refl) ∙ sym (alike y.0)))
same_finds_same_pairs (x ∷ xs) [] rising_x rising_y alike = absurd (not_both x.1 (sym (found_first x xs x.0 refl) ∙ alike x.0))
same_finds_same_pairs (x ∷ xs) (y ∷ ys) rising_x rising_y alike =
    let later : xs ≡ ys = same_finds_same_pairs xs ys (later_rises x xs rising_x) (later_rises y ys rising_y) (alike_later x y xs ys rising_x rising_y alike) in
    λ i. (same_cells x y xs ys rising_x rising_y alike i, same_values x y xs ys rising_x rising_y alike i) ∷ later i

-- a cell put back is found as it was, and so is each other
found_back : (pairs : Cells) (cell : Cell) (value : ℕ) (was : Option ℕ) → IsRising pairs → find_cell pairs cell ≡ was → (other : Cell) → find_cell (put_back (set pairs cell value) cell was) other ≡ find_cell pairs other
found_back pairs cell value None rising is other =
    find_cell-remove_cell (set pairs cell value) cell other (set_keeps_rising pairs cell value rising) ∙ ap (cond (is_at (cell_cmp cell) other) None) (find_cell-set pairs cell value other) ∙ by (is_at (cell_cmp cell) other) refl
  where
    by : (passes : Bool) → is_at (cell_cmp cell) other ≡ passes → cond passes None (cond passes (Some value) (find_cell pairs other)) ≡ find_cell pairs other
    by true same = sym (ap (find_cell pairs) (sym (is_at_same cell other same)) ∙ is)
    by false same = refl
found_back pairs cell value (Some was) rising is other =
    find_cell-set (set pairs cell value) cell was other ∙ ap (cond (is_at (cell_cmp cell) other) (Some was)) (find_cell-set pairs cell value other) ∙ by (is_at (cell_cmp cell) other) refl
  where
    by : (passes : Bool) → is_at (cell_cmp cell) other ≡ passes → cond passes (Some was) (cond passes (Some value) (find_cell pairs other)) ≡ find_cell pairs other
    by true same = sym (ap (find_cell pairs) (sym (is_at_same cell other same)) ∙ is)
    by false same = refl

-- the pairs with a cell put back still rise
back_rises : (pairs : Cells) (cell : Cell) (was : Option ℕ) → IsRising pairs → IsRising (put_back pairs cell was)
back_rises pairs cell None rising = removal_keeps_rising pairs cell rising
back_rises pairs cell (Some was) rising = set_keeps_rising pairs cell was rising

pub put_back_undoes_set : PutBackUndoesSet
put_back_undoes_set pairs cell value rising =
    same_finds_same_pairs _ pairs (back_rises (set pairs cell value) cell (find_cell pairs cell) (set_keeps_rising pairs cell value rising)) rising (found_back pairs cell value (find_cell pairs cell) rising refl)
