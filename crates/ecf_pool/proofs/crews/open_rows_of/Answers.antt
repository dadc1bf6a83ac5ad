use Rattle.std.proofs.Common.{◌≡◌, ℕ, ◌<◌, ◌+◌, not, if◌then◌else◌, length, slice_index_or, ap, sym, ◌∙◌, arith}
use Rattle.std.specs.Prelude.{count_by, take}
use Rattle.std.proofs.Math.Seq.{take-length}
use Rattle.ecf_book.specs.Recorded.{opening_of, state_of}
use Rattle.ecf_core.specs.declared.book.RowState.{RowState}
use Rattle.ecf_core.specs.declared.book.RowState.TheVariants as row
use Rattle.ecf_core.specs.Book.{is_done}
use Rattle.ecf_pool.proofs.RoundLaws.{as_many_rows, count_more}
use Rattle.ecf_pool.proofs.crews.open_rows_of.Goals as goal

pub loop-row-preserved : goal.loop-row-preserved
loop-row-preserved c =
    let b = c.args.book.now in
    let rows = (state_of b).rows in
    let as_many : length rows ≡ length b.setup.txs = as_many_rows (opening_of b.setup) b.entries in
    let count = c.rows-row-end.ensures.rows in
    let below = c.loop-row-test.true in
    let within : c.loop-row.row < length rows = omega arith in
    let few = c.open_row-open.ensures.few in
    let so_far = c.loop-row.invariant.1 in (
      ap (λ (k : ℕ). c.loop-row.open + k) (c.open_row-open.ensures.row ∙ ap (λ (x : RowState). if not (is_done x) then 1 else 0) c.row.ensures)
          ∙ (ap (λ (k : ℕ). k + (if not (is_done (slice_index_or rows c.loop-row.row (row.Free 0))) then 1 else 0)) c.loop-row.invariant.0
          ∙ sym (count_more (λ (x : RowState). not (is_done x)) rows c.loop-row.row (row.Free 0) within)),
      omega arith,
    )

pub returns : goal.returns
returns c =
    let b = c.args.book.now in
    let rows = (state_of b).rows in
    let as_many : length rows ≡ length b.setup.txs = as_many_rows (opening_of b.setup) b.entries in
    let count = c.rows-row-end.ensures.rows in
    let end = c.loop-row-test.false in
    let bound = c.loop-row.auto.row-end in
    let whole : c.loop-row.row ≡ length rows = omega arith in
    c.loop-row.invariant.0 ∙ ap (λ l. count_by (λ (x : RowState). not (is_done x)) l) (ap (λ (k : ℕ). take k rows) whole ∙ take-length rows)
