-- Cells below, above and not below one another.
use Rattle.std.proofs.Common.{◌≡◌, true, false, true≢false, refl, ap, sym, ◌∙◌, Ordering, Less, Equal, Greater, is_lt, is_eq}
use Rattle.std.specs.Ordering.{ordering_reverse}
use Rattle.ecf_lang.specs.declared.cell.Cell.{Cell}
use Rattle.ecf_lang.specs.Store.{cell_cmp}
use Rattle.ecf_stores.specs.OrderLaws.{cell_order_is_total, is_at_itself}
use Rattle.ecf_versions.specs.Pages.{IsFrom}

pub turn : (a b : Cell) → cell_cmp a b ≡ Less → cell_cmp b a ≡ Greater
turn a b less = cell_order_is_total.antisymm b a ∙ ap ordering_reverse less

pub turn_back : (a b : Cell) → cell_cmp a b ≡ Greater → cell_cmp b a ≡ Less
turn_back a b greater = cell_order_is_total.antisymm b a ∙ ap ordering_reverse greater

-- what is below a cell that another isn't below is below that one
pub below_from : (a low b : Cell) → cell_cmp a low ≡ Less → IsFrom low b → cell_cmp a b ≡ Less
below_from a low b less from = by (cell_cmp b low) refl
  where
    by : (order : Ordering) → cell_cmp b low ≡ order → cell_cmp a b ≡ Less
    by Less is = absurd (true≢false (ap is_lt (sym is) ∙ from))
    by Equal is = turn_back b a (cell_order_is_total.congr b low a is ∙ turn a low less)
    by Greater is = cell_order_is_total.trans a low b less (turn_back b low is)

-- what a cell below another isn't below is below that one
pub from_below : (low a b : Cell) → IsFrom low a → cell_cmp a b ≡ Less → cell_cmp low b ≡ Less
from_below low a b from less = by (cell_cmp low a) refl
  where
    by : (order : Ordering) → cell_cmp low a ≡ order → cell_cmp low b ≡ Less
    by Less is = cell_order_is_total.trans low a b is less
    by Equal is = cell_order_is_total.congr low a b is ∙ less
    by Greater is = absurd (true≢false (ap is_lt (sym (turn_back low a is)) ∙ from))

pub above_is_from : (low cell : Cell) → cell_cmp low cell ≡ Less → IsFrom low cell
above_is_from low cell less = ap is_lt (turn low cell less)

pub from_itself : (cell : Cell) → IsFrom cell cell
from_itself cell = by (cell_cmp cell cell) (is_at_itself cell)
  where
    by : (order : Ordering) → is_eq order ≡ true → is_lt order ≡ false
    by Less same = absurd (true≢false (sym same))
    by Equal same = refl
    by Greater same = refl

pub from_trans : (low middle cell : Cell) → IsFrom low middle → IsFrom middle cell → IsFrom low cell
from_trans low middle cell a b = by (cell_cmp cell low) refl
  where
    by : (order : Ordering) → cell_cmp cell low ≡ order → is_lt order ≡ false
    by Less is = absurd (true≢false (ap is_lt (sym (below_from cell low middle is a)) ∙ b))
    by Equal is = refl
    by Greater is = refl
