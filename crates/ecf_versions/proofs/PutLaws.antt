-- What a write keeps of all cells.
use Rattle.std.proofs.Common.{◌≡◌, ℕ, zero, suc, ◌+◌, ◌<◌, ◌∙◌, ap, sym, subst, length, take, get_or, Bool, true, false, cond, [], ◌∷◌, All, Ordering, Less, Equal, Greater}
use Rattle.std.specs.Ordering.{match_ordering}
use Rattle.std.specs.BTreeMap.{is_at}
use Rattle.std.proofs.lemmas.Option.{slice_get-get_or}
use Rattle.std.proofs.lemmas.List.Elements.{All-cons, All-head, All-tail}
use Rattle.ecf_lang.specs.declared.cell.Cell.{Cell}
use Rattle.ecf_lang.specs.Store.{Store, Cells, IsStore, cell_cmp, set, put, with_writes}
use Rattle.ecf_stores.specs.StoreLaws.{put_keeps_store, empty_is_store, writes_keep_store, one_more_write_is_put, read_after_writes, same_reads_same_store}
use Rattle.ecf_stores.specs.Pairs.{remove_cell}

module _ (P : Cell → Type 0) where
  abbrev HasOf : Cell × ℕ → Type 0
  HasOf pair = P pair.0

  all_set : (pairs : Cells) (cell : Cell) (value : ℕ) → P cell → All HasOf pairs → All HasOf (set pairs cell value)
  all_set [] cell value here all = All-cons HasOf (cell, value) [] here all
  all_set (e ∷ es) cell value here all = by (cell_cmp cell e.0) (all_set es cell value here (All-tail HasOf e es all))
    where
      by : (order : Ordering) → All HasOf (set es cell value) → All HasOf (match_ordering order ((cell, value) ∷ e ∷ es) ((e.0, value) ∷ es) (e ∷ set es cell value))
      by Less later = All-cons HasOf (cell, value) (e ∷ es) here all
      by Equal later = All-cons HasOf (e.0, value) es (All-head HasOf e es all) (All-tail HasOf e es all)
      by Greater later = All-cons HasOf e (set es cell value) (All-head HasOf e es all) later

  all_remove : (pairs : Cells) (cell : Cell) → All HasOf pairs → All HasOf (remove_cell pairs cell)
  all_remove [] cell all = all
  all_remove (e ∷ es) cell all = by (is_at (cell_cmp cell) e.0) (all_remove es cell (All-tail HasOf e es all))
    where
      by : (passes : Bool) → All HasOf (remove_cell es cell) → All HasOf (cond passes es (e ∷ remove_cell es cell))
      by true later = All-tail HasOf e es all
      by false later = All-cons HasOf e (remove_cell es cell) (All-head HasOf e es all) later

  -- what holds of the written cell and of all others holds of all after the write
  pub all_put : (pairs : Cells) (cell : Cell) (value : ℕ) → P cell → All HasOf pairs → All HasOf (put pairs cell value)
  all_put pairs cell zero here all = all_remove pairs cell all
  all_put pairs cell (suc n) here all = all_set pairs cell (suc n) here all

-- one write more leaves a store with all writes so far
pub one_more : (start before after : Store) (writes : Cells) (i : ℕ) (d : Cell × ℕ) → i < length writes → (before ≡ with_writes start (take i writes)) × IsStore before → after ≡ put before (get_or writes i d).0 (get_or writes i d).1
    → (after ≡ with_writes start (take (i + 1) writes)) × IsStore after
one_more start before after writes i d inside so_far one =
    let write : Cell × ℕ = get_or writes i d in (
      one ∙ ap (λ (s : Store). put s write.0 write.1) so_far.0 ∙ sym (one_more_write_is_put start writes i write (slice_get-get_or writes i d inside)),
      subst IsStore (sym one) (put_keeps_store before write.0 write.1 so_far.1),
    )

-- a store's own cells, written over none, give it
pub own_writes : (store : Store) → IsStore store → with_writes [] store ≡ store
own_writes store is = same_reads_same_store (with_writes [] store) store (writes_keep_store [] store empty_is_store) is (λ cell. read_after_writes [] store cell empty_is_store is.rising)
