-- The order of cells is total and exact, so that the test which a look-up makes tells whether two cells are one.
use Rattle.std.proofs.Common.{◌≡◌, ◌≢◌, Bool, true, false, refl, sym, ap, true≢false, Ordering, Less, Equal, Greater, is_eq, is_lt, is_gt, nat_cmp}
use Rattle.std.specs.Ordering.{ordering_then}
use Rattle.std.specs.BTreeMap.{is_at}
use Rattle.std.proofs.lemmas.Cmp.{nat_cmp_total, on_total, then_total, eq_by_cmp_equiv}
use Rattle.std.proofs.lemmas.Map.Lookups.{exact_unsigned}
use Rattle.ecf_lang.specs.declared.cell.Cell.{Cell}
use Rattle.ecf_lang.specs.Store.{cell_cmp}
use Rattle.ecf_stores.specs.Laws.{CellOrderIsTotal, CellOrderIsExact}

pub cell_order_is_total : CellOrderIsTotal
cell_order_is_total = then_total (on_total (λ (c : Cell). c.object) nat_cmp_total) (then_total (on_total (λ (c : Cell). c.field) nat_cmp_total) (on_total (λ (c : Cell). c.key) nat_cmp_total))

-- a comparison by one thing and then another is equal where both are
both_equal : (first second : Ordering) → ordering_then first second ≡ Equal → (first ≡ Equal) × (second ≡ Equal)
both_equal Less second same = absurd (true≢false (ap is_lt same))
both_equal Equal second same = (refl, same)
both_equal Greater second same = absurd (true≢false (ap is_gt same))

pub cell_order_is_exact : CellOrderIsExact
cell_order_is_exact a b same =
    let objects = both_equal (nat_cmp a.object b.object) _ same in
    let others = both_equal (nat_cmp a.field b.field) (nat_cmp a.key b.key) objects.1 in
    λ i. record { object = exact_unsigned a.object b.object objects.0 i; field = exact_unsigned a.field b.field others.0 i; key = exact_unsigned a.key b.key others.1 i }

-- a cell passes its own test
pub is_at_itself : (cell : Cell) → is_at (cell_cmp cell) cell ≡ true
is_at_itself cell = (eq_by_cmp_equiv cell_order_is_total).refl cell

-- either of two cells may be the one that tests
pub is_at_back : (a b : Cell) → is_at (cell_cmp a) b ≡ is_at (cell_cmp b) a
is_at_back a b = (eq_by_cmp_equiv cell_order_is_total).symm a b

-- a cell that passes another's test is that one
pub is_at_same : (a b : Cell) → is_at (cell_cmp a) b ≡ true → a ≡ b
is_at_same a b passes = by (cell_cmp a b) refl passes
  where
    by : (order : Ordering) → cell_cmp a b ≡ order → is_eq order ≡ true → a ≡ b
    by Less is same = absurd (true≢false (sym same))
    by Equal is same = cell_order_is_exact a b is
    by Greater is same = absurd (true≢false (sym same))

-- another cell fails a cell's test
pub is_at_other : (a b : Cell) → b ≢ a → is_at (cell_cmp a) b ≡ false
is_at_other a b differ = by (is_at (cell_cmp a) b) refl
  where
    by : (passes : Bool) → is_at (cell_cmp a) b ≡ passes → passes ≡ false
    by true is = absurd (differ (sym (is_at_same a b is)))
    by false is = refl
