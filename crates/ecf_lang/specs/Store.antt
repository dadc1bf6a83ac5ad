-- A store is a finite map from cells to numbers above 0, kept as its pairs, rising by cell.
use Rattle.std.specs.Prelude.{ℕ, zero, suc, ◌<◌, List, [], ◌∷◌, Option, unwrap_or, All}
use Rattle.std.specs.declared.cmp.Ordering.{Ordering}
use Rattle.std.specs.Ordering.{nat_cmp, ordering_then}
use Rattle.std.specs.Map.{keys_of, lookup, remove_entry}
use Rattle.std.specs.BTreeMap.{insert_entry, is_at}
use Rattle.std.specs.List.Sorted.{IsStrictlySortedBy}
use Rattle.ecf_lang.specs.declared.cell.Cell.{Cell}

-- cells in their order: by object, then field, then key
abbrev pub cell_cmp : Cell → Cell → Ordering
cell_cmp a b = ordering_then (nat_cmp a.object b.object) (ordering_then (nat_cmp a.field b.field) (nat_cmp a.key b.key))

-- numbers by cell
abbrev pub Cells : Type 0
Cells = List (Cell × ℕ)

-- a store, as its pairs
abbrev pub Store : Type 0
Store = Cells

-- pairs that rise by cell
abbrev pub IsRising : Cells → Type 0
IsRising pairs = IsStrictlySortedBy cell_cmp (keys_of pairs)

-- pairs that are a store: rising, and none of them 0
pub record IsStore (pairs : Cells) : Type 0 where
  pub rising : IsRising pairs
  pub above_0 : All (λ p. 0 < p.1) pairs

-- the number of a cell among some pairs, if it has one
abbrev pub find_cell : Cells → Cell → Option ℕ
find_cell pairs cell = lookup (is_at (cell_cmp cell)) pairs

-- what a cell reads in a store: 0 where it is absent
abbrev pub read : Store → Cell → ℕ
read store cell = unwrap_or (find_cell store cell) 0

-- the pairs with this number for the cell
abbrev pub set : Cells → Cell → ℕ → Cells
set pairs cell value = insert_entry cell_cmp pairs cell value

-- a store after a write: a 0 takes the cell out
abbrev pub put : Store → Cell → ℕ → Store
put store cell zero = remove_entry (is_at (cell_cmp cell)) store
put store cell (suc n) = set store cell (suc n)

-- a store after several writes
abbrev pub with_writes : Store → Cells → Store
with_writes store [] = store
with_writes store (w ∷ writes) = with_writes (put store w.0 w.1) writes
