-- What a book is, and how an entry of its history changes it.
use Rattle.std.specs.Prelude.{ℕ, suc, ◌==◌, nat_lt, ◌&&◌, Bool, true, false, not, if◌then◌else◌, List, [], ◌∷◌, ◌++◌, length, map, slice_get, slice_set, slice_index_or, find, Option, Some, None}
use Rattle.std.specs.List.{list_all, range_with_len}
use Rattle.std.specs.Option.{option_map_or}
use Rattle.ecf_lang.specs.declared.limits.TheConstants.{MAX_CLAIMS}
use Rattle.ecf_lang.specs.declared.tx.Tx.{Tx}
use Rattle.ecf_lang.specs.declared.typed.Typed.{Typed}
use Rattle.ecf_verdicts.specs.Journals.{places, submitter_at, of_submitter}
use Rattle.ecf_core.specs.declared.book.RowState.{RowState}
use Rattle.ecf_core.specs.declared.book.RowState.TheVariants as row
use Rattle.ecf_core.specs.declared.book.LogEntry.{LogEntry}
use Rattle.ecf_core.specs.declared.book.LogWhat.{LogWhat}
use Rattle.ecf_core.specs.declared.book.LogWhat.TheVariants as log
use Rattle.ecf_core.specs.Watches.{Watch, without_watch}
use Rattle.ecf_core.specs.Ledgers.{Off, Ledger, initial_ledger, ledger_after}

-- what a book is opened with; the watches with their counts at that time
pub record Opening : Type 0 where
  pub typed : Typed
  pub txs : List Tx
  pub watches : List Watch

-- a book's state, beside its opening
pub record Book : Type 0 where
  -- one for each transaction
  pub rows : List RowState
  -- the rows that are Done, in the order of their receipts
  pub journal : List ℕ
  -- how many tickets were given
  pub tickets : ℕ
  -- the watches that were taken out, in that order
  pub offs : List Off
  -- what the journal's transactions left
  pub ledger : Ledger

-- rows that nobody claimed yet, one for each transaction
abbrev pub new_rows : List Tx → List RowState
new_rows txs = map (λ _. row.Free 0) txs

-- a book before its first call
abbrev pub new_book : Opening → Book
new_book o = record { rows = new_rows o.txs; journal = []; tickets = 0; offs = []; ledger = initial_ledger o.typed o.watches }

-- the state of a row; one that isn't there counts as Free
abbrev pub row_at : Book → ℕ → RowState
row_at b r = slice_index_or b.rows r (row.Free 0)

abbrev pub is_claimed : RowState → Bool
is_claimed (row.Free claims) = false
is_claimed (row.Claimed ticket claims stales) = true
is_claimed (row.Done seq) = false

abbrev pub is_done : RowState → Bool
is_done (row.Free claims) = false
is_done (row.Claimed ticket claims stales) = false
is_done (row.Done seq) = true

-- how many commits were stale under a ticket, where the row is Claimed under it
abbrev pub stales_under : ℕ → RowState → Option ℕ
stales_under ticket (row.Free claims) = None
stales_under ticket (row.Claimed given claims stales) = if given == ticket then Some stales else None
stales_under ticket (row.Done seq) = None

-- the number of the journal's next entry
abbrev pub next_seq : Book → ℕ
next_seq b = suc (length b.journal)

-- the rows of a row's submitter before it
abbrev pub earlier_rows : List Tx → ℕ → List ℕ
earlier_rows txs r = of_submitter txs (submitter_at txs r) (range_with_len 0 r)

-- Free, and claimed less often than a row may be
abbrev pub has_claim_left : RowState → Bool
has_claim_left (row.Free claims) = nat_lt claims MAX_CLAIMS
has_claim_left (row.Claimed ticket claims stales) = false
has_claim_left (row.Done seq) = false

-- a row may be claimed where it has a claim left and all earlier rows of its submitter are Done
abbrev pub may_be_claimed : Opening → Book → ℕ → Bool
may_be_claimed o b r = has_claim_left (row_at b r) && list_all (λ q. is_done (row_at b q)) (earlier_rows o.txs r)

-- the least row that may be claimed
abbrev pub claimable_row : Opening → Book → Option ℕ
claimable_row o b = find (may_be_claimed o b) (places o.txs)

-- the first row that isn't Done
abbrev pub first_open_row : Opening → Book → Option ℕ
first_open_row o b = find (λ r. not (is_done (row_at b r))) (places o.txs)

-- the book with another state for a row
abbrev pub with_row : Book → ℕ → RowState → Book
with_row b r state = record b { rows = slice_set b.rows r state }

-- a row's state when it is claimed once more, under a ticket
abbrev pub as_claimed : ℕ → RowState → RowState
as_claimed ticket (row.Free claims) = row.Claimed ticket (suc claims) 0
as_claimed ticket (row.Claimed given claims stales) = row.Claimed ticket (suc claims) 0
as_claimed ticket (row.Done seq) = row.Done seq

-- a row's state when one commit more was stale
abbrev pub as_stale : RowState → RowState
as_stale (row.Free claims) = row.Free claims
as_stale (row.Claimed ticket claims stales) = row.Claimed ticket claims (suc stales)
as_stale (row.Done seq) = row.Done seq

-- a row's state when it is given back
abbrev pub as_freed : RowState → RowState
as_freed (row.Free claims) = row.Free claims
as_freed (row.Claimed ticket claims stales) = row.Free claims
as_freed (row.Done seq) = row.Done seq

-- the book with a row placed: Done at the journal's next number, with its receipt on the present store
abbrev pub with_placed : Opening → Book → ℕ → Book
with_placed o b r = record b {
  rows = slice_set b.rows r (row.Done (next_seq b));
  journal = b.journal ++ r ∷ [];
  ledger = option_map_or (λ tx. ledger_after o.typed tx b.ledger) (slice_get o.txs r) b.ledger;
}

-- the book with a watch taken out
abbrev pub with_off : Book → ℕ → Book
with_off b k = record b {
  offs = b.offs ++ record { after = length b.journal; watch = k } ∷ [];
  ledger = record b.ledger { watches = without_watch k b.ledger.watches };
}

-- the book after a change of a row, made under a ticket
abbrev pub after_change : Opening → Book → ℕ → ℕ → LogWhat → Book
after_change o b r ticket log.Claimed = record (with_row b r (as_claimed ticket (row_at b r))) { tickets = suc b.tickets }
after_change o b r ticket (log.Placed seq) = with_placed o b r
after_change o b r ticket (log.Stale cell was now) = with_row b r (as_stale (row_at b r))
after_change o b r ticket (log.LastStale cell was now) = with_row b r (as_stale (row_at b r))
after_change o b r ticket (log.Here seq) = with_placed o b r
after_change o b r ticket log.Freed = with_row b r (as_freed (row_at b r))
after_change o b r ticket (log.Finished seq) = with_placed o b r
after_change o b r ticket (log.Off k) = with_off b k

-- the book after an entry
abbrev pub after_entry : Opening → Book → LogEntry → Book
after_entry o b e = after_change o b e.row e.ticket e.what

-- the book after entries, one after the other
unfoldable pub after_entries : Opening → Book → List LogEntry → Book
after_entries o b [] = b
after_entries o b (e ∷ es) = after_entries o (after_entry o b e) es

-- the book that a history says, from its opening on
abbrev pub after : Opening → List LogEntry → Book
after o entries = after_entries o (new_book o) entries
