-- A leaf's cells: where one is found, and what a write makes of them.
use Rattle.std.proofs.Common.{◌≡◌, ℕ, zero, suc, ◌+◌, ◌<◌, ◌≤◌, [], ◌∷◌, ◌++◌, length, take, drop, set, get_or, Some, unwrap_or, refl, ap, sym, ◌∙◌, subst, arith, Ordering, Less, Equal, Greater, is_eq, cond, Bool, true, false, true≢false}
use Rattle.std.specs.Ordering.{match_ordering}
use Rattle.std.specs.List.{AllByRecursion, remove, insert}
use Rattle.std.specs.List.Sorted.{IsStrictlySortedBy}
use Rattle.std.specs.Map.{keys_of}
use Rattle.std.specs.BTreeMap.{is_at}
use Rattle.std.proofs.Math.Numerals.{add-one}
use Rattle.std.proofs.Math.ListN.{get_or-map}
use Rattle.std.proofs.lemmas.Option.{get_or_from_slice_get, slice_get_within}
use Rattle.std.proofs.lemmas.List.{length-map, length-take, length-drop, take-append-drop}
use Rattle.std.proofs.lemmas.List.Elements.{All-nil, All-cons, All-head, All-tail}
use Rattle.ecf_lang.specs.declared.cell.Cell.{Cell}
use Rattle.ecf_lang.specs.Store.{Cells, IsRising, cell_cmp, find_cell, read, put}
use Rattle.ecf_lang.specs.Store.{set as set_cell}
use Rattle.ecf_stores.specs.PairLaws.{set_keeps_rising, removal_keeps_rising}
use Rattle.ecf_stores.specs.Pairs.{remove_cell, AreBelow, AreAbove}
use Rattle.ecf_stores.specs.OrderLaws.{is_at_itself}
use Rattle.ecf_stores.specs.CutLaws.{find_behind_front, find_before_back, put_behind_front, put_before_back}
use Rattle.ecf_versions.specs.Pages.{IsFrom, AreFrom}
use Rattle.ecf_versions.specs.Places.{CellsBelow, CellsAbove, IsFound, IsGap}
use Rattle.ecf_versions.specs.declared.page.TheConstants.{MAX_ITEMS}
use Rattle.ecf_versions.specs.Leaves.{IsLeaf}
use Rattle.ecf_versions.specs.Grown.{IsCut}
use Rattle.ecf_versions.proofs.OrderLaws.{from_itself, above_is_from}

abbrev cell_of : Cell × ℕ → Cell
cell_of pair = pair.0

abbrev PairBelow : Cell → Cell × ℕ → Type 0
PairBelow cell pair = cell_cmp pair.0 cell ≡ Less

abbrev PairAbove : Cell → Cell × ℕ → Type 0
PairAbove cell pair = cell_cmp cell pair.0 ≡ Less

-- pairs whose cells are below, or above
taken_below : (pairs : Cells) (cell : Cell) (at : ℕ) → CellsBelow (take at (keys_of pairs)) cell → AreBelow (take at pairs) cell
taken_below pairs cell zero below = All-nil (PairBelow cell)
taken_below [] cell (suc at) below = All-nil (PairBelow cell)
taken_below (pair ∷ pairs) cell (suc at) below =
    let first : PairBelow cell pair = All-head (λ other. cell_cmp other cell ≡ Less) pair.0 (take at (keys_of pairs)) below in
    All-cons (PairBelow cell) pair (take at pairs) first (taken_below pairs cell at (All-tail (λ other. cell_cmp other cell ≡ Less) pair.0 (take at (keys_of pairs)) below))

all_above : (pairs : Cells) (cell : Cell) → CellsAbove (keys_of pairs) cell → AreAbove pairs cell
all_above [] cell above = All-nil (PairAbove cell)
all_above (pair ∷ pairs) cell above =
    let first : PairAbove cell pair = All-head (λ other. cell_cmp cell other ≡ Less) pair.0 (keys_of pairs) above in
    All-cons (PairAbove cell) pair pairs first (all_above pairs cell (All-tail (λ other. cell_cmp cell other ≡ Less) pair.0 (keys_of pairs) above))

dropped_above : (pairs : Cells) (cell : Cell) (at : ℕ) → CellsAbove (drop at (keys_of pairs)) cell → AreAbove (drop at pairs) cell
dropped_above pairs cell zero above = all_above pairs cell above
dropped_above [] cell (suc at) above = All-nil (PairAbove cell)
dropped_above (pair ∷ pairs) cell (suc at) above = dropped_above pairs cell at above

pub found_within : (pairs : Cells) (cell : Cell) (at : ℕ) → IsFound (keys_of pairs) cell at → at < length pairs
found_within pairs cell at found = omega (arith, slice_get_within (keys_of pairs) at cell found.here, length-map pairs cell_of)

pub gap_within : (pairs : Cells) (cell : Cell) (at : ℕ) → IsGap (keys_of pairs) cell at → at ≤ length pairs
gap_within pairs cell at gap = omega (arith, gap.within, length-map pairs cell_of)

-- the pairs around the one at a place
around : (pairs : Cells) (at : ℕ) (d : Cell × ℕ) → at < length pairs → pairs ≡ take at pairs ++ get_or pairs at d ∷ drop (suc at) pairs
around [] at d inside = absurd (omega arith)
around (pair ∷ pairs) zero d inside = refl
around (pair ∷ pairs) (suc at) d inside = ap (λ l. pair ∷ l) (around pairs at d (omega arith))

same_cell : (pairs : Cells) (cell : Cell) (at : ℕ) (d : Cell × ℕ) → IsFound (keys_of pairs) cell at → (get_or pairs at d).0 ≡ cell
same_cell pairs cell at d found = sym (get_or-map cell_of pairs at d) ∙ get_or_from_slice_get (keys_of pairs) at cell d.0 found.here

around_found : (pairs : Cells) (cell : Cell) (at : ℕ) (d : Cell × ℕ) → IsFound (keys_of pairs) cell at → pairs ≡ take at pairs ++ (cell, (get_or pairs at d).1) ∷ drop (suc at) pairs
around_found pairs cell at d found = around pairs at d (found_within pairs cell at found) ∙ ap (λ (k : Cell). take at pairs ++ (k, (get_or pairs at d).1) ∷ drop (suc at) pairs) (same_cell pairs cell at d found)

behind_found : (pairs : Cells) (cell : Cell) (at : ℕ) → IsFound (keys_of pairs) cell at → AreAbove (drop (suc at) pairs) cell
behind_found pairs cell at found = dropped_above pairs cell (suc at) (subst (λ n. CellsAbove (drop n (keys_of pairs)) cell) (add-one at) found.above)

-- the first pair of a list is found, and changed or taken out
find_first : (cell : Cell) (value : ℕ) (pairs : Cells) → find_cell ((cell, value) ∷ pairs) cell ≡ Some value
find_first cell value pairs = ap (λ b. cond b (Some value) (find_cell pairs cell)) (is_at_itself cell)

put_first : (cell : Cell) (old value : ℕ) → put ((cell, old) ∷ []) cell value ≡ put [] cell value
put_first cell old zero = ap (λ b. cond b [] ((cell, old) ∷ [])) (is_at_itself cell)
put_first cell old (suc n) = ap (λ o. match_ordering o ((cell, suc n) ∷ (cell, old) ∷ []) ((cell, suc n) ∷ []) ((cell, old) ∷ (cell, suc n) ∷ [])) (equal (cell_cmp cell cell) (is_at_itself cell))
  where
    equal : (order : Ordering) → is_eq order ≡ true → order ≡ Equal
    equal Less is = absurd (true≢false (sym is))
    equal Equal is = refl
    equal Greater is = absurd (true≢false (sym is))

pub read_found : (pairs : Cells) (cell : Cell) (at : ℕ) (d : Cell × ℕ) → IsFound (keys_of pairs) cell at → read pairs cell ≡ (get_or pairs at d).1
read_found pairs cell at d found =
    ap (λ l. read l cell) (around_found pairs cell at d found)
    ∙ ap (λ o. unwrap_or o 0) (find_behind_front (take at pairs) ((cell, (get_or pairs at d).1) ∷ drop (suc at) pairs) cell (taken_below pairs cell at found.below) ∙ find_first cell (get_or pairs at d).1 (drop (suc at) pairs))

-- nothing is found in a gap
pub read_gap : (pairs : Cells) (cell : Cell) (at : ℕ) → IsGap (keys_of pairs) cell at → read pairs cell ≡ 0
read_gap pairs cell at gap =
    ap (λ l. read l cell) (sym (take-append-drop at pairs))
    ∙ ap (λ o. unwrap_or o 0) (find_behind_front (take at pairs) (drop at pairs) cell (taken_below pairs cell at gap.below) ∙ find_before_back [] (drop at pairs) cell (dropped_above pairs cell at gap.above))

put_at_found : (pairs : Cells) (cell : Cell) (at : ℕ) (d : Cell × ℕ) (value : ℕ) → IsFound (keys_of pairs) cell at → put pairs cell value ≡ take at pairs ++ (put [] cell value ++ drop (suc at) pairs)
put_at_found pairs cell at d value found =
    let old : ℕ = (get_or pairs at d).1 in
    let back : Cells = drop (suc at) pairs in
    ap (λ l. put l cell value) (around_found pairs cell at d found) ∙ put_behind_front (take at pairs) ((cell, old) ∷ back) cell value (taken_below pairs cell at found.below)
    ∙ ap (λ l. take at pairs ++ l) (put_before_back ((cell, old) ∷ []) back cell value (behind_found pairs cell at found) ∙ ap (λ l. l ++ back) (put_first cell old value))

put_at_gap : (pairs : Cells) (cell : Cell) (at : ℕ) (value : ℕ) → IsGap (keys_of pairs) cell at → put pairs cell value ≡ take at pairs ++ (put [] cell value ++ drop at pairs)
put_at_gap pairs cell at value gap =
    ap (λ l. put l cell value) (sym (take-append-drop at pairs)) ∙ put_behind_front (take at pairs) (drop at pairs) cell value (taken_below pairs cell at gap.below)
    ∙ ap (λ l. take at pairs ++ l) (put_before_back [] (drop at pairs) cell value (dropped_above pairs cell at gap.above))

some_put : (cell : Cell) (value : ℕ) → 0 < value → put [] cell value ≡ (cell, value) ∷ []
some_put cell zero above = absurd (omega arith)
some_put cell (suc n) above = refl

set_around : (pairs : Cells) (at : ℕ) (pair : Cell × ℕ) → at < length pairs → set pairs at pair ≡ take at pairs ++ pair ∷ drop (suc at) pairs
set_around [] at pair inside = absurd (omega arith)
set_around (p ∷ pairs) zero pair inside = refl
set_around (p ∷ pairs) (suc at) pair inside = ap (λ l. p ∷ l) (set_around pairs at pair (omega arith))

-- a 0 takes a cell out that is there
pub removed : (pairs : Cells) (cell : Cell) (at : ℕ) → IsFound (keys_of pairs) cell at → remove pairs at ≡ put pairs cell 0
removed pairs cell at found = sym (put_at_found pairs cell at (cell, 0) 0 found)

-- another number changes it
pub changed : (pairs : Cells) (cell : Cell) (at : ℕ) (d : Cell × ℕ) (value : ℕ) → 0 < value → IsFound (keys_of pairs) cell at → set pairs at ((get_or pairs at d).0, value) ≡ put pairs cell value
changed pairs cell at d value above found =
    set_around pairs at ((get_or pairs at d).0, value) (found_within pairs cell at found) ∙ ap (λ (k : Cell). take at pairs ++ (k, value) ∷ drop (suc at) pairs) (same_cell pairs cell at d found)
    ∙ ap (λ (l : Cells). take at pairs ++ (l ++ drop (suc at) pairs)) (sym (some_put cell value above)) ∙ sym (put_at_found pairs cell at d value found)

-- a cell that isn't there is put in, and stays out with a 0
pub added : (pairs : Cells) (cell : Cell) (at value : ℕ) → 0 < value → IsGap (keys_of pairs) cell at → insert pairs at (cell, value) ≡ put pairs cell value
added pairs cell at value above gap = ap (λ (l : Cells). take at pairs ++ (l ++ drop at pairs)) (sym (some_put cell value above)) ∙ sym (put_at_gap pairs cell at value gap)

pub unchanged : (pairs : Cells) (cell : Cell) (at : ℕ) → IsGap (keys_of pairs) cell at → pairs ≡ put pairs cell 0
unchanged pairs cell at gap = sym (take-append-drop at pairs) ∙ sym (put_at_gap pairs cell at 0 gap)

-- rising pairs on either side of a place: they rise, and the first pair behind is between them
rising_tail : (pair : Cell × ℕ) (pairs : Cells) → IsRising (pair ∷ pairs) → IsRising pairs
unfolding IsStrictlySortedBy
rising_tail pair pairs rising = rising.1

rising_drop : (pairs : Cells) (n : ℕ) → IsRising pairs → IsRising (drop n pairs)
rising_drop pairs zero rising = rising
rising_drop [] (suc n) rising = rising
rising_drop (pair ∷ pairs) (suc n) rising = rising_drop pairs n (rising_tail pair pairs rising)

take_all : (P : Cell → Type 0) (pairs : Cells) (n : ℕ) → AllByRecursion P (keys_of pairs) → AllByRecursion P (keys_of (take n pairs))
take_all P pairs zero all = tt
take_all P [] (suc n) all = tt
take_all P (pair ∷ pairs) (suc n) all = (all.0, take_all P pairs n all.1)

rising_take : (pairs : Cells) (n : ℕ) → IsRising pairs → IsRising (take n pairs)
unfolding IsStrictlySortedBy
rising_take pairs zero rising = tt
rising_take [] (suc n) rising = tt
rising_take (pair ∷ pairs) (suc n) rising = (take_all (λ other. cell_cmp pair.0 other ≡ Less) pairs n rising.0, rising_take pairs n rising.1)

below_later : (pairs : Cells) (n : ℕ) (d : Cell × ℕ) (P : Cell → Type 0) → n < length pairs → AllByRecursion P (keys_of pairs) → P (get_or pairs n d).0
below_later [] n d P inside all = absurd (omega arith)
below_later (pair ∷ pairs) zero d P inside all = all.0
below_later (pair ∷ pairs) (suc n) d P inside all = below_later pairs n d P (omega arith) all.1

first_below : (pairs : Cells) (n : ℕ) (d : Cell × ℕ) → n < length pairs → IsRising pairs → AreBelow (take n pairs) (get_or pairs n d).0
unfolding IsStrictlySortedBy
first_below [] n d inside rising = absurd (omega arith)
first_below (pair ∷ pairs) zero d inside rising = All-nil (PairBelow pair.0)
first_below (pair ∷ pairs) (suc n) d inside rising =
    let within : n < length pairs = omega arith in
    All-cons (PairBelow (get_or pairs n d).0) pair (take n pairs) (below_later pairs n d (λ other. cell_cmp pair.0 other ≡ Less) within rising.0) (first_below pairs n d within rising.1)

from_all : (low : Cell) (pairs : Cells) → AllByRecursion (λ other. cell_cmp low other ≡ Less) (keys_of pairs) → AreFrom pairs low
from_all low [] all = All-nil (λ (pair : Cell × ℕ). IsFrom low pair.0)
from_all low (pair ∷ pairs) all = All-cons (λ (pair : Cell × ℕ). IsFrom low pair.0) pair pairs (above_is_from low pair.0 all.0) (from_all low pairs all.1)

from_first : (pairs : Cells) (n : ℕ) (d : Cell × ℕ) → n < length pairs → IsRising pairs → AreFrom (drop n pairs) (get_or pairs n d).0
unfolding IsStrictlySortedBy
from_first [] n d inside rising = absurd (omega arith)
from_first (pair ∷ pairs) zero d inside rising = All-cons (λ (other : Cell × ℕ). IsFrom pair.0 other.0) pair pairs (from_itself pair.0) (from_all pair.0 pairs rising.0)
from_first (pair ∷ pairs) (suc n) d inside rising = from_first pairs n d (omega arith) rising.1

first_dropped : (pairs : Cells) (n : ℕ) (d : Cell × ℕ) → get_or (drop n pairs) 0 d ≡ get_or pairs n d
first_dropped pairs zero d = refl
first_dropped [] (suc n) d = refl
first_dropped (pair ∷ pairs) (suc n) d = first_dropped pairs n d

-- both parts of a cut leaf are leaves
pub first_part : (pairs front : Cells) (half : ℕ) → front ≡ take half pairs → half ≤ MAX_ITEMS → half ≤ length pairs → IsRising pairs → IsLeaf front
first_part pairs front half is few inside rising =
    subst IsLeaf (sym is) (record { rising = rising_take pairs half rising; few = omega (arith, length-take half pairs) })

pub second_part : (pairs back : Cells) (half : ℕ) → back ≡ drop half pairs → length pairs ≤ half + MAX_ITEMS → IsRising pairs → IsLeaf back
second_part pairs back half is few rising =
    subst IsLeaf (sym is) (record { rising = rising_drop pairs half rising; few = omega (arith, length-drop half pairs) })

-- and the first cell of the second is between them
pub cut_leaf : (pairs front back : Cells) (half : ℕ) (first : Cell × ℕ) → front ≡ take half pairs → back ≡ drop half pairs → first ≡ get_or back 0 first → 0 < half → half < length pairs → IsRising pairs → IsCut front back pairs first.0
cut_leaf pairs front back half first front_is back_is first_is above inside rising =
    let middle : first ≡ get_or pairs half first = first_is ∙ ap (λ l. get_or l 0 first) back_is ∙ first_dropped pairs half first in
    let made : IsCut (take half pairs) (drop half pairs) pairs (get_or pairs half first).0 = record {
      whole = take-append-drop half pairs;
      first_filled = omega (arith, length-take half pairs);
      second_filled = omega (arith, length-drop half pairs);
      below = first_below pairs half first inside rising;
      from = from_first pairs half first inside rising;
    } in
    subst (λ (z : Cells × Cells × Cell). IsCut z.0 z.1 pairs z.2) (λ i. (sym front_is i, sym back_is i, (sym middle i).0)) made

-- one pair is a leaf
pub single_leaf : (pair : Cell × ℕ) → IsLeaf (pair ∷ [])
unfolding IsStrictlySortedBy
single_leaf pair = record { rising = (tt, tt); few = omega arith }

-- a write makes a list longer by one at most, and leaves it rising
set_length : (pairs : Cells) (cell : Cell) (value : ℕ) → length (set_cell pairs cell value) ≤ length pairs + 1
set_length [] cell value = omega arith
set_length (e ∷ es) cell value = by (cell_cmp cell e.0) (set_length es cell value)
  where
    by : (order : Ordering) → length (set_cell es cell value) ≤ length es + 1 → length (match_ordering order ((cell, value) ∷ e ∷ es) ((e.0, value) ∷ es) (e ∷ set_cell es cell value)) ≤ length (e ∷ es) + 1
    by Less later = omega arith
    by Equal later = omega arith
    by Greater later = omega (arith, later)

removal_length : (pairs : Cells) (cell : Cell) → length (remove_cell pairs cell) ≤ length pairs
removal_length [] cell = omega arith
removal_length (e ∷ es) cell = by (is_at (cell_cmp cell) e.0) (removal_length es cell)
  where
    by : (passes : Bool) → length (remove_cell es cell) ≤ length es → length (cond passes es (e ∷ remove_cell es cell)) ≤ length (e ∷ es)
    by true later = omega arith
    by false later = omega (arith, later)

pub put_length : (pairs : Cells) (cell : Cell) (value : ℕ) → length (put pairs cell value) ≤ length pairs + 1
put_length pairs cell zero = omega (arith, removal_length pairs cell)
put_length pairs cell (suc n) = set_length pairs cell (suc n)

pub put_rises : (pairs : Cells) (cell : Cell) (value : ℕ) → IsRising pairs → IsRising (put pairs cell value)
put_rises pairs cell zero rising = removal_keeps_rising pairs cell rising
put_rises pairs cell (suc n) rising = set_keeps_rising pairs cell (suc n) rising
