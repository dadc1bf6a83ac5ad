-- The entries of a history, counted and picked out.
use Rattle.std.specs.Prelude.{ℕ, suc, ◌==◌, ◌+◌, ◌*◌, ◌&&◌, not, Bool, true, false, List, length, map, filter}
use Rattle.ecf_lang.specs.declared.limits.TheConstants.{MAX_CLAIMS, MAX_STALES}
use Rattle.ecf_core.specs.declared.book.LogEntry.{LogEntry}
use Rattle.ecf_core.specs.declared.book.LogWhat.{LogWhat}
use Rattle.ecf_core.specs.declared.book.LogWhat.TheVariants as log

-- the entry is of a watch, and of no row
abbrev pub is_off : LogWhat → Bool
is_off log.Claimed = false
is_off (log.Placed seq) = false
is_off (log.Stale cell was now) = false
is_off (log.LastStale cell was now) = false
is_off (log.Here seq) = false
is_off log.Freed = false
is_off (log.Finished seq) = false
is_off (log.Off k) = true

-- the entry is of a stale commit
abbrev pub is_stale : LogWhat → Bool
is_stale log.Claimed = false
is_stale (log.Placed seq) = false
is_stale (log.Stale cell was now) = true
is_stale (log.LastStale cell was now) = true
is_stale (log.Here seq) = false
is_stale log.Freed = false
is_stale (log.Finished seq) = false
is_stale (log.Off k) = false

-- the entry gives its ticket
abbrev pub gives_ticket : LogWhat → Bool
gives_ticket log.Claimed = true
gives_ticket (log.Placed seq) = false
gives_ticket (log.Stale cell was now) = false
gives_ticket (log.LastStale cell was now) = false
gives_ticket (log.Here seq) = false
gives_ticket log.Freed = false
gives_ticket (log.Finished seq) = false
gives_ticket (log.Off k) = false

-- the entry gives its row a receipt
abbrev pub places_row : LogWhat → Bool
places_row log.Claimed = false
places_row (log.Placed seq) = true
places_row (log.Stale cell was now) = false
places_row (log.LastStale cell was now) = false
places_row (log.Here seq) = true
places_row log.Freed = false
places_row (log.Finished seq) = true
places_row (log.Off k) = false

-- how many entries a row has
abbrev pub entries_of : ℕ → List LogEntry → ℕ
entries_of r entries = length (filter (λ (e : LogEntry). (e.row == r) && not (is_off e.what)) entries)

-- the most that it can have: a claim, its stale commits and its end for each claim, and one when all work ends
abbrev pub most_entries : ℕ
most_entries = suc (MAX_CLAIMS * (MAX_STALES + 2))

-- how many stale commits there were under a ticket
abbrev pub stales_of : ℕ → List LogEntry → ℕ
stales_of ticket entries = length (filter (λ (e : LogEntry). (e.ticket == ticket) && is_stale e.what) entries)

-- the tickets that were given, in order
abbrev pub given_tickets : List LogEntry → List ℕ
given_tickets entries = map (λ (e : LogEntry). e.ticket) (filter (λ (e : LogEntry). gives_ticket e.what) entries)

-- the rows that were given a receipt, in order
abbrev pub placed_rows : List LogEntry → List ℕ
placed_rows entries = map (λ (e : LogEntry). e.row) (filter (λ (e : LogEntry). places_row e.what) entries)
