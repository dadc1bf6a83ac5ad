-- Pairs in two parts, one behind the other: where a cell is found and written.
use Rattle.std.proofs.Common.{◌≡◌, ℕ, zero, suc, Bool, true, false, cond, [], ◌∷◌, ◌++◌, Option, Some, None, refl, ap, ◌∙◌, Ordering, Less, Equal, Greater, is_eq}
use Rattle.std.specs.Option.{option_or}
use Rattle.std.specs.Ordering.{ordering_reverse, match_ordering}
use Rattle.std.specs.BTreeMap.{is_at}
use Rattle.std.proofs.lemmas.List.Elements.{All-head, All-tail}
use Rattle.ecf_lang.specs.declared.cell.Cell.{Cell}
use Rattle.ecf_lang.specs.Store.{Cells, cell_cmp, find_cell, set}
use Rattle.ecf_stores.specs.Pairs.{remove_cell, AreBelow, AreAbove}
use Rattle.ecf_stores.specs.Laws.{FindInParts, FindBehindFront, FindBeforeBack, PutBehindFront, PutBeforeBack}
use Rattle.ecf_stores.specs.OrderLaws.{cell_order_is_total}

pub find_in_parts : FindInParts
find_in_parts [] back cell = refl
find_in_parts (e ∷ front) back cell = by (is_at (cell_cmp cell) e.0) (find_in_parts front back cell)
  where
    by : (passes : Bool) → find_cell (front ++ back) cell ≡ option_or (find_cell front cell) (find_cell back cell) → cond passes (Some e.1) (find_cell (front ++ back) cell) ≡ option_or (cond passes (Some e.1) (find_cell front cell)) (find_cell back cell)
    by true later = refl
    by false later = later

module _ (cell : Cell) where
  -- the answer of a comparison with the first of pairs that are all below, or all above
  above_first : (e : Cell × ℕ) (es : Cells) → AreBelow (e ∷ es) cell → cell_cmp cell e.0 ≡ Greater
  above_first e es below = cell_order_is_total.antisymm cell e.0 ∙ ap ordering_reverse (All-head (λ pair. cell_cmp pair.0 cell ≡ Less) e es below)

  below_first : (e : Cell × ℕ) (es : Cells) → AreAbove (e ∷ es) cell → cell_cmp cell e.0 ≡ Less
  below_first e es above = All-head (λ pair. cell_cmp cell pair.0 ≡ Less) e es above

  later_below : (e : Cell × ℕ) (es : Cells) → AreBelow (e ∷ es) cell → AreBelow es cell
  later_below e es below = All-tail (λ pair. cell_cmp pair.0 cell ≡ Less) e es below

  later_above : (e : Cell × ℕ) (es : Cells) → AreAbove (e ∷ es) cell → AreAbove es cell
  later_above e es above = All-tail (λ pair. cell_cmp cell pair.0 ≡ Less) e es above

  none_above : (pairs : Cells) → AreAbove pairs cell → find_cell pairs cell ≡ None
  none_above [] above = refl
  none_above (e ∷ es) above = ap (λ o. cond (is_eq o) (Some e.1) (find_cell es cell)) (below_first e es above) ∙ none_above es (later_above e es above)

  none_below : (pairs : Cells) → AreBelow pairs cell → find_cell pairs cell ≡ None
  none_below [] below = refl
  none_below (e ∷ es) below = ap (λ o. cond (is_eq o) (Some e.1) (find_cell es cell)) (above_first e es below) ∙ none_below es (later_below e es below)

  set_behind_front : (front back : Cells) (value : ℕ) → AreBelow front cell → set (front ++ back) cell value ≡ front ++ set back cell value
  set_behind_front [] back value below = refl
  set_behind_front (e ∷ front) back value below =
      ap (λ o. match_ordering o ((cell, value) ∷ e ∷ (front ++ back)) ((e.0, value) ∷ (front ++ back)) (e ∷ set (front ++ back) cell value)) (above_first e front below)
      ∙ ap (λ l. e ∷ l) (set_behind_front front back value (later_below e front below))

  remove_behind_front : (front back : Cells) → AreBelow front cell → remove_cell (front ++ back) cell ≡ front ++ remove_cell back cell
  remove_behind_front [] back below = refl
  remove_behind_front (e ∷ front) back below =
      ap (λ o. cond (is_eq o) (front ++ back) (e ∷ remove_cell (front ++ back) cell)) (above_first e front below) ∙ ap (λ l. e ∷ l) (remove_behind_front front back (later_below e front below))

  -- a first pair of the back part goes behind what is set, and nothing of it is removed
  set_before_all : (back : Cells) (value : ℕ) → AreAbove back cell → set back cell value ≡ (cell, value) ∷ back
  set_before_all [] value above = refl
  set_before_all (e ∷ back) value above = ap (λ o. match_ordering o ((cell, value) ∷ e ∷ back) ((e.0, value) ∷ back) (e ∷ set back cell value)) (below_first e back above)

  remove_before_all : (back : Cells) → AreAbove back cell → remove_cell back cell ≡ back
  remove_before_all [] above = refl
  remove_before_all (e ∷ back) above = ap (λ o. cond (is_eq o) back (e ∷ remove_cell back cell)) (below_first e back above) ∙ ap (λ l. e ∷ l) (remove_before_all back (later_above e back above))

  set_before_back : (front back : Cells) (value : ℕ) → AreAbove back cell → set (front ++ back) cell value ≡ set front cell value ++ back
  set_before_back [] back value above = set_before_all back value above
  set_before_back (e ∷ front) back value above = by (cell_cmp cell e.0) (set_before_back front back value above)
    where
      by : (order : Ordering) → set (front ++ back) cell value ≡ set front cell value ++ back →
          match_ordering order ((cell, value) ∷ e ∷ (front ++ back)) ((e.0, value) ∷ (front ++ back)) (e ∷ set (front ++ back) cell value) ≡ match_ordering order ((cell, value) ∷ e ∷ front) ((e.0, value) ∷ front) (e ∷ set front cell value) ++ back
      by Less later = refl
      by Equal later = refl
      by Greater later = ap (λ l. e ∷ l) later

  remove_before_back : (front back : Cells) → AreAbove back cell → remove_cell (front ++ back) cell ≡ remove_cell front cell ++ back
  remove_before_back [] back above = remove_before_all back above
  remove_before_back (e ∷ front) back above = by (is_at (cell_cmp cell) e.0) (remove_before_back front back above)
    where
      by : (passes : Bool) → remove_cell (front ++ back) cell ≡ remove_cell front cell ++ back → cond passes (front ++ back) (e ∷ remove_cell (front ++ back) cell) ≡ cond passes front (e ∷ remove_cell front cell) ++ back
      by true later = refl
      by false later = ap (λ l. e ∷ l) later

pub find_behind_front : FindBehindFront
find_behind_front front back cell below = find_in_parts front back cell ∙ ap (λ o. option_or o (find_cell back cell)) (none_below cell front below)

-- a value or nothing is that value or nothing
or_none : (found : Option ℕ) → option_or found None ≡ found
or_none None = refl
or_none (Some value) = refl

pub find_before_back : FindBeforeBack
find_before_back front back cell above = find_in_parts front back cell ∙ ap (option_or (find_cell front cell)) (none_above cell back above) ∙ or_none (find_cell front cell)

pub put_behind_front : PutBehindFront
put_behind_front front back cell zero below = remove_behind_front cell front back below
put_behind_front front back cell (suc n) below = set_behind_front cell front back (suc n) below

pub put_before_back : PutBeforeBack
put_before_back front back cell zero above = remove_before_back cell front back above
put_before_back front back cell (suc n) above = set_before_back cell front back (suc n) above
