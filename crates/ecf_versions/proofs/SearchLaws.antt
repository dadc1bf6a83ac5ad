-- Cells that rise, on either side of one of them.
use Rattle.std.proofs.Common.{◌≡◌, ℕ, zero, suc, ◌+◌, ◌<◌, ◌≤◌, List, [], ◌∷◌, length, map, take, drop, get_or, Some, ap, sym, ◌∙◌, subst, arith, Less}
use Rattle.std.specs.List.{AllByRecursion}
use Rattle.std.specs.List.Sorted.{IsStrictlySortedBy}
use Rattle.std.proofs.Math.Numerals.{add-one}
use Rattle.std.proofs.Math.ListN.{get_or-map}
use Rattle.std.proofs.lemmas.Option.{slice_get-get_or}
use Rattle.std.proofs.lemmas.List.Elements.{All-nil, All-cons}
use Rattle.ecf_lang.specs.declared.cell.Cell.{Cell}
use Rattle.ecf_lang.specs.Store.{cell_cmp}
use Rattle.ecf_stores.specs.OrderLaws.{cell_order_is_total}
use Rattle.ecf_versions.specs.Places.{CellsBelow, CellsAbove, IsFound, IsGap}

abbrev AreRising : List Cell → Type 0
AreRising = IsStrictlySortedBy cell_cmp

abbrev Below : Cell → Cell → Type 0
Below cell other = cell_cmp other cell ≡ Less

abbrev Above : Cell → Cell → Type 0
Above cell other = cell_cmp cell other ≡ Less

-- what holds of each holds at a place
one_of : (P : Cell → Type 0) (cells : List Cell) (i : ℕ) (d : Cell) → AllByRecursion P cells → i < length cells → P (get_or cells i d)
one_of P [] i d all inside = absurd (omega arith)
one_of P (x ∷ xs) zero d all inside = all.0
one_of P (x ∷ xs) (suc i) d all inside = one_of P xs i d all.1 (omega arith)

all_above : (low cell : Cell) (cells : List Cell) → cell_cmp cell low ≡ Less → AllByRecursion (Above low) cells → CellsAbove cells cell
all_above low cell [] less all = All-nil (Above cell)
all_above low cell (x ∷ xs) less all = All-cons (Above cell) x xs (cell_order_is_total.trans cell low x less all.0) (all_above low cell xs less all.1)

here_above : (cell : Cell) (cells : List Cell) → AllByRecursion (Above cell) cells → CellsAbove cells cell
here_above cell [] all = All-nil (Above cell)
here_above cell (x ∷ xs) all = All-cons (Above cell) x xs all.0 (here_above cell xs all.1)

-- where one is below a cell, so are all up to it
up_to : (cells : List Cell) (cell : Cell) (i : ℕ) (d : Cell) → AreRising cells → i < length cells → cell_cmp (get_or cells i d) cell ≡ Less → CellsBelow (take (suc i) cells) cell
unfolding IsStrictlySortedBy
up_to [] cell i d rising inside less = absurd (omega arith)
up_to (x ∷ xs) cell zero d rising inside less = All-cons (Below cell) x [] less (All-nil (Below cell))
up_to (x ∷ xs) cell (suc i) d rising inside less =
    let within : i < length xs = omega arith in
    All-cons (Below cell) x (take (suc i) xs) (cell_order_is_total.trans x (get_or xs i d) cell (one_of (Above x) xs i d rising.0 within) less) (up_to xs cell i d rising.1 within less)

pub below_up_to : (cells : List Cell) (cell : Cell) (i : ℕ) (d : Cell) → AreRising cells → i < length cells → cell_cmp (get_or cells i d) cell ≡ Less → CellsBelow (take (i + 1) cells) cell
below_up_to cells cell i d rising inside less = subst (λ n. CellsBelow (take n cells) cell) (sym (add-one i)) (up_to cells cell i d rising inside less)

-- where one is above a cell, so are all from it on
pub above_from : (cells : List Cell) (cell : Cell) (i : ℕ) (d : Cell) → AreRising cells → i < length cells → cell_cmp cell (get_or cells i d) ≡ Less → CellsAbove (drop i cells) cell
unfolding IsStrictlySortedBy
above_from [] cell i d rising inside less = absurd (omega arith)
above_from (x ∷ xs) cell zero d rising inside less = All-cons (Above cell) x xs less (all_above x cell xs less rising.0)
above_from (x ∷ xs) cell (suc i) d rising inside less = above_from xs cell i d rising.1 (omega arith) less

before : (cells : List Cell) (i : ℕ) (d : Cell) → AreRising cells → i < length cells → CellsBelow (take i cells) (get_or cells i d)
unfolding IsStrictlySortedBy
before [] i d rising inside = absurd (omega arith)
before (x ∷ xs) zero d rising inside = All-nil (Below x)
before (x ∷ xs) (suc i) d rising inside =
    let within : i < length xs = omega arith in
    All-cons (Below (get_or xs i d)) x (take i xs) (one_of (Above x) xs i d rising.0 within) (before xs i d rising.1 within)

behind : (cells : List Cell) (i : ℕ) (d : Cell) → AreRising cells → i < length cells → CellsAbove (drop (suc i) cells) (get_or cells i d)
unfolding IsStrictlySortedBy
behind [] i d rising inside = absurd (omega arith)
behind (x ∷ xs) zero d rising inside = here_above x xs rising.0
behind (x ∷ xs) (suc i) d rising inside = behind xs i d rising.1 (omega arith)

-- a cell that compares equal is found
pub found : (cells : List Cell) (cell : Cell) (i : ℕ) (d : Cell) → AreRising cells → i < length cells → get_or cells i d ≡ cell → IsFound cells cell i
found cells cell i d rising inside same = record {
  here = slice_get-get_or cells i d inside ∙ ap Some same;
  below = subst (CellsBelow (take i cells)) same (before cells i d rising inside);
  above = subst (λ n. CellsAbove (drop n cells) cell) (sym (add-one i)) (subst (CellsAbove (drop (suc i) cells)) same (behind cells i d rising inside));
}

-- the cell of the item at a place
pub key_at : {K : Type 0} (key : K → Cell) (items : List K) (i : ℕ) (item : K) (cell : Cell) → item ≡ get_or items i item → cell ≡ key item → get_or (map key items) i cell ≡ cell
key_at key items i item cell here is = ap (get_or (map key items) i) is ∙ get_or-map key items i item ∙ ap key (sym here) ∙ sym is

-- all cells before a gap are below, and all behind it above
pub gap : (cells : List Cell) (cell : Cell) (low high : ℕ) → low ≤ high → high ≤ low → high ≤ length cells → CellsBelow (take low cells) cell → CellsAbove (drop high cells) cell → IsGap cells cell low
gap cells cell low high a b within below above =
    let same : high ≡ low = omega arith in
    record { within = omega arith; below = below; above = subst (λ n. CellsAbove (drop n cells) cell) same above }
