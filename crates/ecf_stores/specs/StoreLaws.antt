-- Stores after writes: that they are stores, what is read in them, and that what is read decides them.
use Rattle.std.proofs.Common.{◌≡◌, ℕ, zero, suc, ◌<◌, Bool, true, false, cond, is_some, [], ◌∷◌, take, Option, Some, None, All, IfSome, unwrap_or, refl, sym, ap, ◌∙◌, true≢false, lt_irrefl, zero-lt-suc, suc-add, map-id, subst, Ordering, Less, Equal, Greater}
use Rattle.std.specs.List.{flat_map, enumerate_from}
use Rattle.std.specs.List.Sorted.{IsStrictlySortedBy}
use Rattle.std.specs.Ordering.{match_ordering}
use Rattle.std.specs.BTreeMap.{is_at}
use Rattle.std.proofs.lemmas.List.Elements.{All-nil, All-cons, All-head, All-tail}
use Rattle.std.proofs.lemmas.Map.Entries.{All-lookup}
use Rattle.std.proofs.lemmas.Map.Views.{All-map-remove_entry}
use Rattle.ecf_lang.specs.declared.cell.Cell.{Cell}
use Rattle.ecf_lang.specs.Store.{Store, Cells, cell_cmp, IsStore, find_cell, read, set, put, with_writes}
use Rattle.ecf_lang.specs.Genesis.{object_cells}
use Rattle.ecf_stores.specs.Pairs.{remove_cell}
use Rattle.ecf_stores.specs.Laws.{PutKeepsStore, ReadAfterPut, EmptyIsStore, WritesKeepStore, WritesGoOn, OneMoreWriteIsPut, ReadAfterWrites, SameReadsSameStore, GenesisIsStore}
use Rattle.ecf_stores.specs.OrderLaws.{is_at_itself, is_at_same, is_at_other, is_at_back}
use Rattle.ecf_stores.specs.PairLaws.{none_rises, set_keeps_rising, removal_keeps_rising, none_found, find_cell-set, find_cell-remove_cell, same_finds_same_pairs}

-- the number of a pair is above 0
abbrev IsAbove0 : Cell × ℕ → Type 0
IsAbove0 pair = 0 < pair.1

set_above_0 : (pairs : Cells) (cell : Cell) (value : ℕ) → 0 < value → All IsAbove0 pairs → All IsAbove0 (set pairs cell value)
set_above_0 [] cell value above all = All-cons IsAbove0 (cell, value) [] above all
set_above_0 (e ∷ es) cell value above all = by (cell_cmp cell e.0) (set_above_0 es cell value above (All-tail IsAbove0 e es all))
  where
    by : (order : Ordering) → All IsAbove0 (set es cell value) → All IsAbove0 (match_ordering order ((cell, value) ∷ e ∷ es) ((e.0, value) ∷ es) (e ∷ set es cell value))
    by Less later = All-cons IsAbove0 (cell, value) (e ∷ es) above all
    by Equal later = All-cons IsAbove0 (e.0, value) es above (All-tail IsAbove0 e es all)
    by Greater later = All-cons IsAbove0 e (set es cell value) (All-head IsAbove0 e es all) later

removal_above_0 : (pairs : Cells) (cell : Cell) → All IsAbove0 pairs → All IsAbove0 (remove_cell pairs cell)
removal_above_0 pairs cell all =
    subst (All IsAbove0) (map-id _) (All-map-remove_entry (is_at (cell_cmp cell)) (λ (p : Cell × ℕ). p) IsAbove0 pairs (subst (All IsAbove0) (sym (map-id pairs)) all))

pub put_keeps_store : PutKeepsStore
put_keeps_store store cell zero is = record { rising = removal_keeps_rising store cell is.rising; above_0 = removal_above_0 store cell is.above_0 }
put_keeps_store store cell (suc n) is = record { rising = set_keeps_rising store cell (suc n) is.rising; above_0 = set_above_0 store cell (suc n) (zero-lt-suc n) is.above_0 }

-- a default after a choice
unwrap_or-cond : (b : Bool) (x y : Option ℕ) (d : ℕ) → unwrap_or (cond b x y) d ≡ cond b (unwrap_or x d) (unwrap_or y d)
unwrap_or-cond true x y d = refl
unwrap_or-cond false x y d = refl

-- what is read after a write, by the test of the cell
pub read-put : (store : Store) (cell : Cell) (value : ℕ) (other : Cell) → IsStore store → read (put store cell value) other ≡ cond (is_at (cell_cmp cell) other) value (read store other)
read-put store cell zero other is = ap (λ o. unwrap_or o 0) (find_cell-remove_cell store cell other is.rising) ∙ unwrap_or-cond (is_at (cell_cmp cell) other) None (find_cell store other) 0
read-put store cell (suc n) other is = ap (λ o. unwrap_or o 0) (find_cell-set store cell (suc n) other) ∙ unwrap_or-cond (is_at (cell_cmp cell) other) (Some (suc n)) (find_cell store other) 0

pub read_after_put : ReadAfterPut
read_after_put store cell value is = record {
  here = read-put store cell value cell is ∙ ap (λ b. cond b value (read store cell)) (is_at_itself cell);
  others = λ other differ. read-put store cell value other is ∙ ap (λ b. cond b value (read store other)) (is_at_other cell other differ);
}

pub empty_is_store : EmptyIsStore
empty_is_store = record { rising = none_rises; above_0 = All-nil IsAbove0 }

pub writes_keep_store : WritesKeepStore
writes_keep_store store [] is = is
writes_keep_store store (w ∷ writes) is = writes_keep_store (put store w.0 w.1) writes (put_keeps_store store w.0 w.1 is)

pub genesis_is_store : GenesisIsStore
genesis_is_store typed = writes_keep_store [] (flat_map object_cells (enumerate_from 0 typed.objects)) empty_is_store

pub writes_go_on : WritesGoOn
writes_go_on store [] others = refl
writes_go_on store (w ∷ first) others = writes_go_on (put store w.0 w.1) first others

pub one_more_write_is_put : OneMoreWriteIsPut
one_more_write_is_put store [] i write is = absurd (true≢false (sym (ap is_some is)))
one_more_write_is_put store (w ∷ writes) zero write is = ap (λ o. put store (unwrap_or o w).0 (unwrap_or o w).1) is
one_more_write_is_put store (w ∷ writes) (suc i) write is = ap (λ n. with_writes store (take n (w ∷ writes))) (suc-add i 1) ∙ one_more_write_is_put (put store w.0 w.1) writes i write is

pub read_after_writes : ReadAfterWrites
unfolding IsStrictlySortedBy
read_after_writes store [] cell is rising = refl
read_after_writes store (w ∷ writes) cell is rising =
    read_after_writes (put store w.0 w.1) writes cell (put_keeps_store store w.0 w.1 is) rising.1 ∙ ap (unwrap_or (find_cell writes cell)) (read-put store w.0 w.1 cell is) ∙ by (is_at (cell_cmp w.0) cell) refl
  where
    by : (passes : Bool) → is_at (cell_cmp w.0) cell ≡ passes → unwrap_or (find_cell writes cell) (cond passes w.1 (read store cell)) ≡ unwrap_or (find_cell (w ∷ writes) cell) (read store cell)
    by true same = ap (λ o. unwrap_or o w.1) (ap (find_cell writes) (sym (is_at_same w.0 cell same)) ∙ none_found w.0 writes rising.0)
        ∙ ap (λ b. unwrap_or (cond b (Some w.1) (find_cell writes cell)) (read store cell)) (sym (is_at_back cell w.0 ∙ same))
    by false apart = ap (λ b. unwrap_or (cond b (Some w.1) (find_cell writes cell)) (read store cell)) (sym (is_at_back cell w.0 ∙ apart))

-- what is found where this is read, since no number that is kept is 0
abbrev find_of_read : ℕ → Option ℕ
find_of_read zero = None
find_of_read (suc n) = Some (suc n)

find_from_read : (store : Store) (cell : Cell) → IsStore store → find_cell store cell ≡ find_of_read (read store cell)
find_from_read store cell is = by (find_cell store cell) (All-lookup (λ n. 0 < n) (is_at (cell_cmp cell)) store is.above_0)
  where
    by : (found : Option ℕ) → IfSome found (λ n. 0 < n) → found ≡ find_of_read (unwrap_or found 0)
    by None above = refl
    by (Some zero) above = absurd (lt_irrefl 0 above)
    by (Some (suc n)) above = refl

pub same_reads_same_store : SameReadsSameStore
same_reads_same_store a b is_a is_b alike = same_finds_same_pairs a b is_a.rising is_b.rising (λ cell. find_from_read a cell is_a ∙ ap find_of_read (alike cell) ∙ sym (find_from_read b cell is_b))
