-- What the works are that a book gives, and what comes back where it takes nothing.
use Rattle.std.specs.Prelude.{◌≡◌, slice_get, Some, ⊤}
use Rattle.std.specs.Arc.{arc_value}
use Rattle.ecf_book.specs.declared.replies.Claim.{Claim}
use Rattle.ecf_book.specs.declared.replies.Claim.TheVariants as claim
use Rattle.ecf_book.specs.declared.replies.Commit.{Commit}
use Rattle.ecf_book.specs.declared.replies.Commit.TheVariants as commit
use Rattle.ecf_book.specs.Recorded.{Recorded, state_of}
use Rattle.ecf_core.specs.Legal.{IsHeld}
use Rattle.ecf_draft.specs.declared.drafts.Work.{Work}
use Rattle.ecf_draft.specs.Drafts.{JudgedWork}

-- a work is of its row: the book's transaction there, Claimed under the work's ticket with so many stale commits, and the present store
pub record IsWorkOf (b : Recorded) (work : Work) : Type 0 where
  pub tx : slice_get b.setup.txs work.row ≡ Some (arc_value work.tx)
  pub held : IsHeld (state_of b) work.row work.ticket work.tries
  pub snapshot : work.snapshot ≡ (state_of b).ledger.store

-- a claim that gives work gives it of its row, under the ticket that was given last
abbrev pub GivesWork : Recorded → Claim → Type 0
GivesWork b (claim.Work work) = IsWorkOf b work × (work.ticket ≡ (state_of b).tickets)
GivesWork b claim.Later = ⊤
GivesWork b claim.Over = ⊤
GivesWork b claim.NoMemory = ⊤

-- a stale commit gives the row back under its ticket, as work or to be run by the book; where memory was wanting, what was judged
-- comes back
abbrev pub GivesBack : Recorded → JudgedWork → Commit → Type 0
GivesBack b judged (commit.Placed seq) = ⊤
GivesBack b judged (commit.Stale cell was now work) = IsWorkOf b work × (work.row ≡ judged.row) × (work.ticket ≡ judged.ticket)
GivesBack b judged (commit.LastStale cell was now row ticket) = (row ≡ judged.row) × (ticket ≡ judged.ticket)
GivesBack b judged (commit.Gone kept) = ⊤
GivesBack b judged (commit.NoMemory back) = back ≡ judged
