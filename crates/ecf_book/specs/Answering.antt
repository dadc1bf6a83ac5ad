-- What the calls of a book say, as replies of a schedule, and what it is for a call to give the answer that is due.
use Rattle.std.specs.Prelude.{◌≡◌, ◌<◌, ℕ, Bool, true, false, List, ◌++◌, length, take, Option, Some, None, MatchOption}
use Rattle.ecf_book.specs.declared.replies.Claim.{Claim}
use Rattle.ecf_book.specs.declared.replies.Claim.TheVariants as claim
use Rattle.ecf_book.specs.declared.replies.Commit.{Commit}
use Rattle.ecf_book.specs.declared.replies.Commit.TheVariants as commit
use Rattle.ecf_book.specs.declared.replies.Here.{Here}
use Rattle.ecf_book.specs.declared.replies.Here.TheVariants as here
use Rattle.ecf_book.specs.declared.replies.Release.{Release}
use Rattle.ecf_book.specs.declared.replies.Release.TheVariants as release
use Rattle.ecf_book.specs.Recorded.{Recorded, with_entries}
use Rattle.ecf_core.specs.declared.book.LogEntry.{LogEntry}
use Rattle.ecf_core.specs.declared.event.Reply.{Reply}
use Rattle.ecf_core.specs.declared.event.Reply.TheVariants as reply
use Rattle.ecf_core.specs.Calls.{Answer}

-- what a claim says in a schedule; nothing where memory was wanting
abbrev pub said_by_claim : Claim → Option Reply
said_by_claim (claim.Work work) = Some (reply.Work work.row)
said_by_claim claim.Later = Some reply.Later
said_by_claim claim.Over = Some reply.Over
said_by_claim claim.NoMemory = None

-- what a commit says
abbrev pub said_by_commit : Commit → Option Reply
said_by_commit (commit.Placed seq) = Some (reply.Placed seq)
said_by_commit (commit.Stale cell was now work) = Some (reply.Stale cell was now)
said_by_commit (commit.LastStale cell was now row ticket) = Some (reply.LastStale cell was now)
said_by_commit (commit.Gone kept) = Some (reply.Gone kept)
said_by_commit (commit.NoMemory judged) = None

-- what a run on the present store says
abbrev pub said_by_here : Here → Option Reply
said_by_here (here.Placed seq) = Some (reply.Placed seq)
said_by_here (here.Gone kept) = Some (reply.Gone kept)
said_by_here here.NoMemory = None

-- what a release says
abbrev pub said_by_release : Release → Reply
said_by_release release.Freed = reply.Freed
said_by_release (release.Gone kept) = reply.Gone kept

-- an answer with this reply takes memory: for a snapshot, or for the next version of the store
abbrev pub takes_memory : Reply → Bool
takes_memory (reply.Work row) = true
takes_memory (reply.Placed seq) = true
takes_memory (reply.Stale cell was now) = true
takes_memory other = false

-- the due answer was given: its reply, and its entries were added
pub record WasGiven (answer : Answer) (said : Reply) (before later : Recorded) : Type 0 where
  pub reply : said ≡ answer.reply
  pub added : later ≡ with_entries before answer.entries

-- memory was wanting: the book stays as it was, and the due answer is one that takes memory
pub record WasWanting (answer : Answer) (before later : Recorded) : Type 0 where
  pub same : later ≡ before
  pub cause : takes_memory answer.reply ≡ true

-- a call that says this gave the due answer, or, where it says nothing, memory was wanting for it
abbrev pub Gives : Answer → Option Reply → Recorded → Recorded → Type 0
Gives answer said before later = MatchOption said (WasWanting answer before later) (λ reply. WasGiven answer reply before later)

-- these entries were all added, and of those that come next the first ones, but not all
pub record LeftOff (entries next : List LogEntry) (before later : Recorded) : Type 0 where
  pub count : ℕ
  pub not_all : count < length next
  pub added : later ≡ with_entries before (entries ++ take count next)
