-- Which entries the history of a book may have next.
use Rattle.std.specs.Prelude.{◌≡◌, ℕ, suc, ◌<◌, ◌≢◌, false, List, [], ◌∷◌, slice_get, Some, ⊤}
use Rattle.ecf_lang.specs.declared.cell.Cell.{Cell}
use Rattle.ecf_lang.specs.declared.limits.TheConstants.{MAX_STALES}
use Rattle.ecf_lang.specs.Store.{read}
use Rattle.ecf_core.specs.declared.book.LogEntry.{LogEntry}
use Rattle.ecf_core.specs.declared.book.LogWhat.{LogWhat}
use Rattle.ecf_core.specs.declared.book.LogWhat.TheVariants as log
use Rattle.ecf_core.specs.Watches.{Watch}
use Rattle.ecf_core.specs.Book.{Opening, Book, row_at, is_claimed, stales_under, next_seq, claimable_row, first_open_row, after_entry, new_book}

-- no row is Claimed
abbrev pub NoneClaimed : Book → Type 0
NoneClaimed b = (r : ℕ) → is_claimed (row_at b r) ≡ false

-- the row is Claimed under the ticket, with so many stale commits
abbrev pub IsHeld : Book → ℕ → ℕ → ℕ → Type 0
IsHeld b r ticket stales = stales_under ticket (row_at b r) ≡ Some stales

-- a cell has another value now than it had
abbrev pub HasChanged : Book → Cell → ℕ → ℕ → Type 0
HasChanged b cell was now = (read b.ledger.store cell ≡ now) × (was ≢ now)

-- when a change of a row under a ticket is legal
abbrev pub IsLegalChange : Opening → Book → ℕ → ℕ → LogWhat → Type 0
IsLegalChange o b r ticket log.Claimed = (claimable_row o b ≡ Some r) × (ticket ≡ suc b.tickets)
IsLegalChange o b r ticket (log.Placed seq) = ((n : ℕ) × IsHeld b r ticket n) × (seq ≡ next_seq b)
IsLegalChange o b r ticket (log.Stale cell was now) = ((n : ℕ) × IsHeld b r ticket n × (suc n < MAX_STALES)) × HasChanged b cell was now
IsLegalChange o b r ticket (log.LastStale cell was now) = ((n : ℕ) × IsHeld b r ticket n × (suc n ≡ MAX_STALES)) × HasChanged b cell was now
IsLegalChange o b r ticket (log.Here seq) = ((n : ℕ) × IsHeld b r ticket n) × (seq ≡ next_seq b)
IsLegalChange o b r ticket log.Freed = (n : ℕ) × IsHeld b r ticket n
IsLegalChange o b r ticket (log.Finished seq) = NoneClaimed b × (first_open_row o b ≡ Some r) × (ticket ≡ 0) × (seq ≡ next_seq b)
IsLegalChange o b r ticket (log.Off k) = NoneClaimed b × ((w : Watch) × (slice_get b.ledger.watches k ≡ Some (Some w))) × (r ≡ 0) × (ticket ≡ 0)

-- when an entry is legal
abbrev pub IsLegalEntry : Opening → Book → LogEntry → Type 0
IsLegalEntry o b e = IsLegalChange o b e.row e.ticket e.what

-- entries, each legal in the book that those before it leave
abbrev pub AreLegal : Opening → Book → List LogEntry → Type 0
AreLegal o b [] = ⊤
AreLegal o b (e ∷ es) = IsLegalEntry o b e × AreLegal o (after_entry o b e) es

-- the history of a book: legal from its opening on
abbrev pub IsHistory : Opening → List LogEntry → Type 0
IsHistory o entries = AreLegal o (new_book o) entries
