-- What each call of a book answers, and the entries that it adds; the book after a call is the book after these entries.
use Rattle.std.specs.Prelude.{ℕ, suc, ◌==◌, nat_lt, not, if◌then◌else◌, List, [], ◌∷◌, ◌++◌, length, find, slice_get, Option, Some, None}
use Rattle.std.specs.List.{list_any}
use Rattle.ecf_lang.specs.declared.cell.Cell.{Cell}
use Rattle.ecf_lang.specs.declared.limits.TheConstants.{MAX_STALES}
use Rattle.ecf_lang.specs.declared.tx.Tx.{Tx}
use Rattle.ecf_lang.specs.Store.{Store, Cells, read}
use Rattle.ecf_core.specs.declared.book.RowState.{RowState}
use Rattle.ecf_core.specs.declared.book.RowState.TheVariants as row
use Rattle.ecf_core.specs.declared.book.LogEntry.{LogEntry}
use Rattle.ecf_core.specs.declared.book.LogWhat.{LogWhat}
use Rattle.ecf_core.specs.declared.book.LogWhat.TheVariants as log
use Rattle.ecf_core.specs.declared.event.Reply.{Reply}
use Rattle.ecf_core.specs.declared.event.Reply.TheVariants as reply
use Rattle.ecf_core.specs.Watches.{Watch}
use Rattle.ecf_core.specs.Book.{Opening, Book, row_at, is_claimed, stales_under, next_seq, claimable_row, new_rows, after_entries}

-- the reply of a call, and the entries that it adds
pub record Answer : Type 0 where
  pub reply : Reply
  pub entries : List LogEntry

-- the book after a call, by its answer
abbrev pub book_after : Opening → Book → Answer → Book
book_after o b answer = after_entries o b answer.entries

-- a reply alone: the book stays as it was
abbrev pub reply_only : Reply → Answer
reply_only r = record { reply = r; entries = [] }

-- a reply with an entry
abbrev pub reply_with : Reply → ℕ → ℕ → LogWhat → Answer
reply_with r at ticket what = record { reply = r; entries = record { row = at; ticket = ticket; what = what } ∷ [] }

-- the answer to a claim, by the row that may be claimed: this row under the next ticket; else whether to come again later
abbrev pub claim_answer : Book → Option ℕ → Answer
claim_answer b (Some r) = reply_with (reply.Work r) r (suc b.tickets) log.Claimed
claim_answer b None = reply_only (if list_any is_claimed b.rows then reply.Later else reply.Over)

-- a claim gives the least row that may be claimed
unfoldable pub claim : Opening → Book → Answer
claim o b = claim_answer b (claimable_row o b)

-- the first of the reads whose cell has another value in the store
abbrev pub first_changed_read : Cells → Store → Option (Cell × ℕ)
first_changed_read reads store = find (λ pair. not (read store pair.0 == pair.1)) reads

-- The answer to a stale commit, after so many under the ticket.
-- While there may be more, the work is given again; at the last one it isn't; and a further one adds nothing.
unfoldable pub stale_answer : ℕ → ℕ → ℕ → Cell → ℕ → ℕ → Answer
stale_answer r ticket stales cell was now =
    if nat_lt (suc stales) MAX_STALES then reply_with (reply.Stale cell was now) r ticket (log.Stale cell was now)
    else (if suc stales == MAX_STALES then reply_with (reply.LastStale cell was now) r ticket (log.LastStale cell was now)
    else reply_only (reply.LastStale cell was now))

-- the answer to a commit of a row that is held, by the read that changed: placed where none did
abbrev pub commit_answer : Book → ℕ → ℕ → ℕ → Option (Cell × ℕ) → Answer
commit_answer b r ticket stales None = reply_with (reply.Placed (next_seq b)) r ticket (log.Placed (next_seq b))
commit_answer b r ticket stales (Some pair) = stale_answer r ticket stales pair.0 pair.1 (read b.ledger.store pair.0)

-- an answer by the stale commits under the ticket; Gone where the row isn't Claimed under it
abbrev pub if_held : Book → ℕ → Option ℕ → (ℕ → Answer) → Answer
if_held b r None answer = reply_only (reply.Gone (row_at b r))
if_held b r (Some stales) answer = answer stales

-- a commit of a row whose run had these reads
unfoldable pub commit : Book → ℕ → ℕ → Cells → Answer
commit b r ticket reads =
    if_held b r (stales_under ticket (row_at b r)) (λ stales. commit_answer b r ticket stales (first_changed_read reads b.ledger.store))

-- a row run and judged on the store as it is now
unfoldable pub commit_here : Book → ℕ → ℕ → Answer
commit_here b r ticket =
    if_held b r (stales_under ticket (row_at b r)) (λ _. reply_with (reply.Placed (next_seq b)) r ticket (log.Here (next_seq b)))

-- a row given back
unfoldable pub release : Book → ℕ → ℕ → Answer
release b r ticket = if_held b r (stales_under ticket (row_at b r)) (λ _. reply_with reply.Freed r ticket log.Freed)

-- the entries that give back each Claimed row of the last rows, which begin at a place
unfoldable pub freeing_entries : ℕ → List RowState → List LogEntry
freeing_entries at [] = []
freeing_entries at (row.Free claims ∷ rows) = freeing_entries (suc at) rows
freeing_entries at (row.Claimed ticket claims stales ∷ rows) = record { row = at; ticket = ticket; what = log.Freed } ∷ freeing_entries (suc at) rows
freeing_entries at (row.Done seq ∷ rows) = freeing_entries (suc at) rows

-- each Claimed row given back, and how many they are
unfoldable pub reclaim : Book → Answer
reclaim b = let entries = freeing_entries 0 b.rows in record { reply = reply.Reclaimed (length entries); entries = entries }

-- the entry that places a row when all work ends
abbrev pub finishing_entry : ℕ → ℕ → LogEntry
finishing_entry at seq = record { row = at; ticket = 0; what = log.Finished seq }

-- the entries that place each row that isn't Done of the last rows, which begin at a place, from a number of the journal on
unfoldable pub finishing_entries : ℕ → ℕ → List RowState → List LogEntry
finishing_entries at seq [] = []
finishing_entries at seq (row.Free claims ∷ rows) = finishing_entry at seq ∷ finishing_entries (suc at) (suc seq) rows
finishing_entries at seq (row.Claimed ticket claims stales ∷ rows) = finishing_entry at seq ∷ finishing_entries (suc at) (suc seq) rows
finishing_entries at seq (row.Done n ∷ rows) = finishing_entries (suc at) seq rows

-- what `finish` adds: each Claimed row is given back, then each row that isn't Done is placed, both in row order
unfoldable pub finish : Book → List LogEntry
finish b = freeing_entries 0 b.rows ++ finishing_entries 0 (next_seq b) b.rows

-- the entries of a watch that is taken out, by what stands at its place; none where no watch is in
abbrev pub off_entries : ℕ → Option (Option Watch) → List LogEntry
off_entries k None = []
off_entries k (Some None) = []
off_entries k (Some (Some w)) = record { row = 0; ticket = 0; what = log.Off k } ∷ []

-- what taking out the watch at a place adds
unfoldable pub take_watch : Book → ℕ → List LogEntry
take_watch b k = off_entries k (slice_get b.ledger.watches k)

-- the opening with further transactions
abbrev pub with_transactions : Opening → List Tx → Opening
with_transactions o txs = record o { txs = o.txs ++ txs }

-- a book with a row more for each further transaction; it adds no entry
abbrev pub extend : Book → List Tx → Book
extend b txs = record b { rows = b.rows ++ new_rows txs }
