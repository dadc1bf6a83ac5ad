-- What an overlay reads, and what a write makes of it.
use Rattle.std.proofs.Common.{◌≡◌, ◌∙◌, ap, sym, refl, ℕ, Bool, true, false, cond, Option, Some, None, unwrap_or}
use Rattle.std.specs.BTreeMap.{is_at}
use Rattle.ecf_lang.specs.declared.cell.Cell.{Cell}
use Rattle.ecf_lang.specs.Store.{cell_cmp, find_cell, read, set, put}
use Rattle.ecf_stores.specs.PairLaws.{find_cell-set, set_keeps_rising}
use Rattle.ecf_stores.specs.StoreLaws.{put_keeps_store, writes_keep_store, read-put, read_after_writes, same_reads_same_store}
use Rattle.ecf_heap.specs.Overlaid.{Overlaid, IsOverlaid, with_write, store_of}

-- a cell reads what was written into it, and else what the store under the writes holds
reads : (o : Overlaid) → IsOverlaid o → (cell : Cell) → read (store_of o) cell ≡ unwrap_or (find_cell o.written cell) (read o.base cell)
reads o is cell = read_after_writes o.base o.written cell is.base is.written

pub reads_written : (o : Overlaid) → IsOverlaid o → (cell : Cell) (value : ℕ) → Some value ≡ find_cell o.written cell → value ≡ read (store_of o) cell
reads_written o is cell value found = ap (λ f. unwrap_or f (read o.base cell)) found ∙ sym (reads o is cell)

pub reads_base : (o : Overlaid) → IsOverlaid o → (cell : Cell) → None ≡ find_cell o.written cell → read o.base cell ≡ read (store_of o) cell
reads_base o is cell absent = ap (λ f. unwrap_or f (read o.base cell)) absent ∙ sym (reads o is cell)

-- a write over the store is a put into the store that the overlay stands for
pub write_is_put : (o : Overlaid) → IsOverlaid o → (cell : Cell) (value : ℕ) → store_of (with_write o cell value) ≡ put (store_of o) cell value
write_is_put o is cell value =
    let now = writes_keep_store o.base o.written is.base in
    same_reads_same_store _ _ (writes_keep_store o.base (set o.written cell value) is.base) (put_keeps_store (store_of o) cell value now) (λ other.
    read_after_writes o.base (set o.written cell value) other is.base (set_keeps_rising o.written cell value is.written)
    ∙ ap (λ f. unwrap_or f (read o.base other)) (find_cell-set o.written cell value other)
    ∙ by (is_at (cell_cmp cell) other) (find_cell o.written other) (read o.base other)
    ∙ ap (cond (is_at (cell_cmp cell) other) value) (sym (reads o is other))
    ∙ sym (read-put (store_of o) cell value other now))
  where
    by : (passes : Bool) (found : Option ℕ) (below : ℕ) → unwrap_or (cond passes (Some value) found) below ≡ cond passes value (unwrap_or found below)
    by true found below = refl
    by false found below = refl
