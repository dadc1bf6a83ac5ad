-- What holds of the lists of each monitor, whatever it was fed.
use Rattle.std.specs.Prelude.{◌≡◌, ◌≤◌, ◌<◌, ◌+◌, ◌*◌, ℕ, true, List, length, slice_index_or, Some}
use Rattle.std.specs.List.{sum_by}
use Rattle.ecf_lang.specs.declared.cell.Cell.{Cell}
use Rattle.ecf_online.specs.declared.limits.TheConstants.{MAX_STEPS}
use Rattle.ecf_online.specs.declared.watch.Read.{Read}
use Rattle.ecf_online.specs.declared.watch.Watch.{Watch}
use Rattle.ecf_online.specs.Closure.{IsReady}
use Rattle.ecf_online.specs.Reads.{blank, read_at, stand_in}
use Rattle.ecf_online.specs.Widening.{IsWide}

-- The reads of each cell stand in the log, writers and readers have rows with words, and there are at most two pairs for
-- each step, those counted that the readers so far may still bring.
pub record IsSound (cells : List Cell) (watches : List Watch) (reads : List Read) (rows : List (List ℕ)) (pairs : List (ℕ × ℕ)) (seen : List ℕ) (width count : ℕ) : Type 0 where
  pub watches_few : length watches ≤ length cells
  pub cells_few : length cells ≤ count
  pub reads_few : length reads ≤ count
  pub steps_few : count ≤ MAX_STEPS
  pub pairs_few : length pairs + sum_by (λ (w : Watch). w.readers) watches ≤ 2 * count
  pub in_log : (k : ℕ) → stand_in reads (slice_index_or watches k blank).readers (slice_index_or watches k blank).last ≡ true
  pub writers : (k i : ℕ) → (slice_index_or watches k blank).writer ≡ Some i → IsReady rows i
  pub readers : (k : ℕ) → k < length reads → IsReady rows (read_at reads k).inv
  pub wide : IsWide rows seen width
