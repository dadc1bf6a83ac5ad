-- When each call of a book, and each event, is replied to so.
use Rattle.std.specs.Prelude.{◌≡◌, ◌↔◌, ◌≢◌, ◌<◌, ◌≤◌, ℕ, suc, true, false, [], ◌∷◌, ◌++◌, length, map, filter, None}
use Rattle.ecf_lang.specs.declared.cell.Cell.{Cell}
use Rattle.ecf_lang.specs.declared.limits.TheConstants.{MAX_STALES}
use Rattle.ecf_lang.specs.Draft.{AgreesWith}
use Rattle.ecf_lang.specs.Store.{Store, Cells, read}
use Rattle.ecf_core.specs.declared.event.Event.{Event}
use Rattle.ecf_core.specs.declared.event.Reply.{Reply}
use Rattle.ecf_core.specs.declared.event.Reply.TheVariants as reply
use Rattle.ecf_core.specs.Book.{Opening, Book, row_at, is_claimed, stales_under, next_seq, may_be_claimed, as_freed}
use Rattle.ecf_core.specs.Calls.{claim, commit, commit_here, release, reclaim, book_after}
use Rattle.ecf_core.specs.Core.{Core, happening, applies, hand_at}
use Rattle.ecf_core.specs.Legal.{IsHeld, NoneClaimed}

-- the row is the least that may be claimed
pub record IsLeastClaimable (o : Opening) (b : Book) (r : ℕ) : Type 0 where
  pub known : r < length o.txs
  pub may : may_be_claimed o b r ≡ true
  pub least : (q : ℕ) → q < r → may_be_claimed o b q ≡ false

-- no row may be claimed
abbrev pub NoneClaimable : Opening → Book → Type 0
NoneClaimable o b = (r : ℕ) → r < length o.txs → may_be_claimed o b r ≡ false

-- some row is Claimed
abbrev pub SomeClaimed : Book → Type 0
SomeClaimed b = (r : ℕ) × (is_claimed (row_at b r) ≡ true)

-- when a claim is answered so
abbrev pub AnswersClaim : Opening → Book → Reply → Type 0
AnswersClaim o b (reply.Work r) = IsLeastClaimable o b r
AnswersClaim o b reply.Later = NoneClaimable o b × SomeClaimed b
AnswersClaim o b reply.Over = NoneClaimable o b × NoneClaimed b
AnswersClaim o b other = ⊥

-- a claim answers Work, Later and Over exactly there, and nothing else
abbrev pub ClaimExactlyWhere : Type 0
ClaimExactlyWhere = (o : Opening) (b : Book) (answer : Reply) → (claim o b).reply ≡ answer ↔ AnswersClaim o b answer

-- the row is Claimed under the ticket, whatever commits were stale
abbrev pub IsClaimedUnder : Book → ℕ → ℕ → Type 0
IsClaimedUnder b r ticket = (n : ℕ) × IsHeld b r ticket n

-- the row is not Claimed under the ticket
abbrev pub IsNotClaimedUnder : Book → ℕ → ℕ → Type 0
IsNotClaimedUnder b r ticket = stales_under ticket (row_at b r) ≡ None

-- the first of the reads whose cell has another value now, with that value
pub record IsFirstChanged (reads : Cells) (store : Store) (cell : Cell) (was now : ℕ) : Type 0 where
  pub before : Cells
  pub later : Cells
  pub parts : reads ≡ before ++ (cell, was) ∷ later
  pub same : AgreesWith before store
  pub value : read store cell ≡ now
  pub differs : was ≢ now

-- when a commit is answered so
abbrev pub AnswersCommit : Book → ℕ → ℕ → Cells → Reply → Type 0
AnswersCommit b r ticket reads (reply.Placed seq) = IsClaimedUnder b r ticket × AgreesWith reads b.ledger.store × (seq ≡ next_seq b)
AnswersCommit b r ticket reads (reply.Stale cell was now) =
    ((n : ℕ) × IsHeld b r ticket n × (suc n < MAX_STALES)) × IsFirstChanged reads b.ledger.store cell was now
AnswersCommit b r ticket reads (reply.LastStale cell was now) =
    ((n : ℕ) × IsHeld b r ticket n × (MAX_STALES ≤ suc n)) × IsFirstChanged reads b.ledger.store cell was now
AnswersCommit b r ticket reads (reply.Gone kept) = IsNotClaimedUnder b r ticket × (kept ≡ row_at b r)
AnswersCommit b r ticket reads other = ⊥

-- a commit answers Placed, Stale, LastStale and Gone exactly there, and nothing else
abbrev pub CommitExactlyWhere : Type 0
CommitExactlyWhere = (b : Book) (r ticket : ℕ) (reads : Cells) (answer : Reply) →
    (commit b r ticket reads).reply ≡ answer ↔ AnswersCommit b r ticket reads answer

-- a commit that is stale past the last time adds no entry
abbrev pub PastLastAddsNothing : Type 0
PastLastAddsNothing = (b : Book) (r ticket n : ℕ) (reads : Cells) → IsHeld b r ticket n → MAX_STALES ≤ n →
    (AgreesWith reads b.ledger.store → ⊥) → (commit b r ticket reads).entries ≡ []

-- when a run on the present store is answered so
abbrev pub AnswersHere : Book → ℕ → ℕ → Reply → Type 0
AnswersHere b r ticket (reply.Placed seq) = IsClaimedUnder b r ticket × (seq ≡ next_seq b)
AnswersHere b r ticket (reply.Gone kept) = IsNotClaimedUnder b r ticket × (kept ≡ row_at b r)
AnswersHere b r ticket other = ⊥

-- it answers Placed and Gone exactly there, and nothing else
abbrev pub HereExactlyWhere : Type 0
HereExactlyWhere = (b : Book) (r ticket : ℕ) (answer : Reply) → (commit_here b r ticket).reply ≡ answer ↔ AnswersHere b r ticket answer

-- when a release is answered so
abbrev pub AnswersRelease : Book → ℕ → ℕ → Reply → Type 0
AnswersRelease b r ticket reply.Freed = IsClaimedUnder b r ticket
AnswersRelease b r ticket (reply.Gone kept) = IsNotClaimedUnder b r ticket × (kept ≡ row_at b r)
AnswersRelease b r ticket other = ⊥

-- it answers Freed and Gone exactly there, and nothing else
abbrev pub ReleaseExactlyWhere : Type 0
ReleaseExactlyWhere = (b : Book) (r ticket : ℕ) (answer : Reply) → (release b r ticket).reply ≡ answer ↔ AnswersRelease b r ticket answer

-- `reclaim` gives back each row that is Claimed, keeps its claims, and answers how many they were
pub record ReclaimsAll (o : Opening) (b : Book) : Type 0 where
  pub said : (reclaim b).reply ≡ reply.Reclaimed (length (filter is_claimed b.rows))
  pub left : book_after o b (reclaim b) ≡ record b { rows = map as_freed b.rows }

-- in every book
abbrev pub ReclaimFreesAll : Type 0
ReclaimFreesAll = (o : Opening) (b : Book) → ReclaimsAll o b

-- an event is refused exactly where it doesn't apply to what its actor holds
abbrev pub RefusedExactlyWhere : Type 0
RefusedExactlyWhere = (o : Opening) (c : Core) (e : Event) → (happening o c e).reply ≡ reply.Refused ↔ applies e (hand_at c e) ≡ false

-- a refused event adds no entry and leaves the core as it was
abbrev pub RefusedChangesNothing : Type 0
RefusedChangesNothing = (o : Opening) (c : Core) (e : Event) → (happening o c e).reply ≡ reply.Refused →
    happening o c e ≡ record { reply = reply.Refused; entries = []; core = c }
