-- What the book promises.
use Rattle.std.specs.Prelude.{◌≡◌, ◌↔◌, ◌≤◌, ◌<◌, ℕ, suc, true, false, not, List, [], ◌∷◌, ◌++◌, length, map, filter, slice_get, Some, All}
use Rattle.std.specs.List.{range_with_len, flat_map}
use Rattle.ecf_lang.specs.declared.limits.TheConstants.{MAX_CLAIMS, MAX_STALES, MAX_QUEUED}
use Rattle.ecf_lang.specs.declared.receipt.Receipt.{Receipt}
use Rattle.ecf_lang.specs.declared.tx.Tx.{Tx}
use Rattle.ecf_lang.specs.declared.typed.Typed.{Typed}
use Rattle.ecf_lang.specs.Store.{Cells, IsStore, with_writes}
use Rattle.ecf_lang.specs.Draft.{AgreesWith}
use Rattle.ecf_verdicts.specs.Journals.{IsLegal, IsLegalSoFar, along, places, submitter_at}
use Rattle.ecf_verdicts.specs.Receipts.{serial}
use Rattle.ecf_core.specs.declared.book.RowState.TheVariants as row
use Rattle.ecf_core.specs.declared.book.LogEntry.{LogEntry}
use Rattle.ecf_core.specs.declared.book.LogWhat.TheVariants as log
use Rattle.ecf_core.specs.declared.event.Event.{Event}
use Rattle.ecf_core.specs.declared.event.Reply.TheVariants as reply
use Rattle.ecf_core.specs.Ledgers.{watched_serial, with_result}
use Rattle.ecf_core.specs.Book.{Opening, Book, row_at, is_claimed, is_done, next_seq, new_book, after_entries, after}
use Rattle.ecf_core.specs.Legal.{AreLegal, IsHistory, IsHeld, NoneClaimed}
use Rattle.ecf_core.specs.Calls.{claim, commit, commit_here, release, reclaim, finish, take_watch, with_transactions, extend, book_after}
use Rattle.ecf_core.specs.Counts.{entries_of, most_entries, stales_of, given_tickets, placed_rows}
use Rattle.ecf_core.specs.Drafted.{Judgement, IsJudged}
use Rattle.ecf_core.specs.Core.{initial_core, core_after, entries_added, placings, schedule_book, Core, RowReads, act_of_hand, act_of_take}

-- with no watch, the serial run under watches is the serial run
abbrev pub NoWatchIsSerial : Type 0
NoWatchIsSerial = (typed : Typed) (txs : List Tx) →
    let plain = serial typed txs in
    watched_serial typed [] [] txs ≡ record { receipts = plain.receipts; store = plain.store; watches = [] }

-- the journal is legal so far
abbrev pub JournalIsLegal : Type 0
JournalIsLegal = (o : Opening) (es : List LogEntry) → IsHistory o es → IsLegalSoFar o.txs (after o es).journal

-- receipts, store and watches are those of the journal's transactions, one after the other
abbrev pub LedgerIsSerial : Type 0
LedgerIsSerial = (o : Opening) (es : List LogEntry) → IsHistory o es →
    let b = after o es in b.ledger ≡ watched_serial o.typed o.watches b.offs (along o.txs b.journal)

-- the store is a store
abbrev pub StoreIsStore : Type 0
StoreIsStore = (o : Opening) (es : List LogEntry) → IsStore (after o es).ledger.store

-- each row of the journal is Done, a row that is Done stands there at its number, and there is a receipt for each
pub record RowAgrees (b : Book) : Type 0 where
  pub listed : All (λ r. is_done (row_at b r) ≡ true) b.journal
  pub at_number : (r n : ℕ) → row_at b r ≡ row.Done n → (m : ℕ) × (n ≡ suc m) × (slice_get b.journal m ≡ Some r)
  pub receipts : length b.ledger.receipts ≡ length b.journal

-- rows, journal and entries agree
abbrev pub RowsAgree : Type 0
RowsAgree = (o : Opening) (es : List LogEntry) → IsHistory o es → RowAgrees (after o es)

-- at most one row of a submitter is Claimed
abbrev pub OneClaimed : Type 0
OneClaimed = (o : Opening) (es : List LogEntry) → IsHistory o es → (p q : ℕ) →
    is_claimed (row_at (after o es) p) ≡ true → is_claimed (row_at (after o es) q) ≡ true →
    submitter_at o.txs p ≡ submitter_at o.txs q → p ≡ q

-- the tickets given are 1, 2, and so on, each once
abbrev pub TicketsRise : Type 0
TicketsRise = (o : Opening) (es : List LogEntry) → IsHistory o es → given_tickets es ≡ range_with_len 1 (after o es).tickets

-- a ticket has at most three stale commits
abbrev pub ThreeStales : Type 0
ThreeStales = (o : Opening) (es : List LogEntry) → IsHistory o es → (ticket : ℕ) → stales_of ticket es ≤ MAX_STALES

-- a row has at most 21 entries
abbrev pub FewEntries : Type 0
FewEntries = (o : Opening) (es : List LogEntry) → IsHistory o es → (r : ℕ) → entries_of r es ≤ most_entries

-- the entries that each call adds are legal; a watch is taken out only while no row is Claimed
pub record CallsAreLegal (o : Opening) (b : Book) : Type 0 where
  pub claims : AreLegal o b (claim o b).entries
  pub commits : (r ticket : ℕ) (reads : Cells) → AreLegal o b (commit b r ticket reads).entries
  pub runs_here : (r ticket : ℕ) → AreLegal o b (commit_here b r ticket).entries
  pub releases : (r ticket : ℕ) → AreLegal o b (release b r ticket).entries
  pub reclaims : AreLegal o b (reclaim b).entries
  pub takes_watch : (k : ℕ) → NoneClaimed b → AreLegal o b (take_watch b k)

-- each call adds legal entries
abbrev pub EachCallIsLegal : Type 0
EachCallIsLegal = (o : Opening) (b : Book) → CallsAreLegal o b

-- after `finish` all rows are Done, and the journal is a whole legal one
pub record IsFinished (o : Opening) (b : Book) : Type 0 where
  pub legal : AreLegal o b (finish b)
  pub done : All (λ r. is_done r ≡ true) (after_entries o b (finish b)).rows
  pub whole : IsLegal o.txs (after_entries o b (finish b)).journal

-- `finish` ends all work
abbrev pub FinishEnds : Type 0
FinishEnds = (o : Opening) (es : List LogEntry) → IsHistory o es → IsFinished o (after o es)

-- further entries only add to the journal, at its end
abbrev pub JournalGrows : Type 0
JournalGrows = (o : Opening) (b : Book) (es : List LogEntry) → (after_entries o b es).journal ≡ b.journal ++ placed_rows es

-- and to the receipts: those that are there stay the first ones
abbrev pub ReceiptsGrow : Type 0
ReceiptsGrow = (o : Opening) (b : Book) (es : List LogEntry) →
    (more : List Receipt) × ((after_entries o b es).ledger.receipts ≡ b.ledger.receipts ++ more)

-- a history is one of the extended opening too, and there it leads to the book with the further rows: no receipt changes
abbrev pub ExtendKeeps : Type 0
ExtendKeeps = (o : Opening) (txs : List Tx) (es : List LogEntry) → IsHistory o es →
    IsHistory (with_transactions o txs) es × (after (with_transactions o txs) es ≡ extend (after o es) txs)

-- the row, or an earlier one of its submitter, is Free and was claimed as often as a row may be
abbrev pub WaitsForSpent : Opening → Book → ℕ → Type 0
WaitsForSpent o b r = (q : ℕ) × (q ≤ r) × (submitter_at o.txs q ≡ submitter_at o.txs r) × (row_at b q ≡ row.Free MAX_CLAIMS)

-- a claim answers Over only where each row that isn't Done waits for one that was claimed 4 times
abbrev pub OverOnlyWhere : Type 0
OverOnlyWhere = (o : Opening) (es : List LogEntry) → IsHistory o es → (claim o (after o es)).reply ≡ reply.Over →
    (r : ℕ) → r < length o.txs → is_done (row_at (after o es) r) ≡ false → WaitsForSpent o (after o es) r

-- a commit of what was drafted under the contract, whose reads agree, places its receipt and leaves its next store
abbrev pub CommitIsRight : Type 0
CommitIsRight = (o : Opening) (b : Book) (r ticket stales : ℕ) (j : Judgement) →
    IsJudged o.typed j → slice_get o.txs r ≡ Some j.tx → IsStore b.ledger.store → IsHeld b r ticket stales → AgreesWith j.reads b.ledger.store →
    let answer = commit b r ticket j.reads in
    (answer.reply ≡ reply.Placed (next_seq b)) ×
    ((book_after o b answer).ledger ≡ with_result j.tx j.receipt j.writes (with_writes b.ledger.store j.writes) b.ledger)

-- the rows that aren't Done, in row order
abbrev pub open_rows : Opening → Book → List ℕ
open_rows o b = filter (λ r. not (is_done (row_at b r))) (places o.txs)

-- For a list of events: the entries that they add are legal and lead to the last book; the journal is the one that the
-- book came with, then the rows that the replies placed, at the numbers that they name, and then the others in row order.
pub record IsScheduled (o : Opening) (b : Book) (events : List Event) : Type 0 where
  pub legal : AreLegal o b (entries_added o (initial_core b) events)
  pub leads : (core_after o (initial_core b) events).book ≡ after_entries o b (entries_added o (initial_core b) events)
  pub numbers : map (λ p. p.1) (placings o (initial_core b) events) ≡ range_with_len (next_seq b) (length (placings o (initial_core b) events))
  pub journal : (schedule_book o b events).journal ≡
      (b.journal ++ map (λ p. p.0) (placings o (initial_core b) events)) ++ open_rows o (core_after o (initial_core b) events).book

-- every list of events is so
abbrev pub EveryListOfEvents : Type 0
EveryListOfEvents = (o : Opening) (es : List LogEntry) (events : List Event) → IsHistory o es → IsScheduled o (after o es) events

-- the first row claimed and given back, four times over
abbrev pub four_lost : List LogEntry
four_lost = flat_map (λ ticket. record { row = 0; ticket = ticket; what = log.Claimed } ∷ record { row = 0; ticket = ticket; what = log.Freed } ∷ []) (range_with_len 1 MAX_CLAIMS)

-- Over is answered, though a row was never claimed: the one before it of its submitter was claimed 4 times
abbrev pub OverWithRowsLeft : Type 0
OverWithRowsLeft = (typed : Typed) (tx : Tx) →
    let o : Opening = record { typed = typed; txs = tx ∷ tx ∷ []; watches = [] } in
    let b : Book = record (new_book o) { rows = row.Free MAX_CLAIMS ∷ row.Free 0 ∷ []; tickets = 4 } in
    (after o four_lost ≡ b) × IsHistory o four_lost × ((claim o b).reply ≡ reply.Over)

-- a draft is refused by the queue exactly where it is full, and else stands at its end
abbrev pub FullExactlyWhere : Type 0
FullExactlyWhere = (c : Core) (d : RowReads) →
    ((act_of_hand c d).reply ≡ reply.Full ↔ MAX_QUEUED ≤ length c.queue) ×
    (length c.queue < MAX_QUEUED → (act_of_hand c d).queue ≡ c.queue ++ d ∷ [])

-- nothing is taken from the queue exactly where it is empty
abbrev pub EmptyExactlyWhere : Type 0
EmptyExactlyWhere = (queue : List RowReads) → (act_of_take queue).reply ≡ reply.Empty ↔ queue ≡ []
