-- The core: actors with their hands, and a queue, around one book. Each event has one reply, and one state after it.
use Rattle.std.specs.Prelude.{ℕ, suc, nat_lt, Bool, true, false, not, if◌then◌else◌, List, [], ◌∷◌, ◌++◌, length, replicate, slice_set, slice_get, slice_index_or, Option, Some, None}
use Rattle.std.specs.Option.{option_map_or}
use Rattle.ecf_lang.specs.declared.limits.TheConstants.{MAX_ACTORS, MAX_QUEUED}
use Rattle.ecf_lang.specs.declared.tx.Tx.{Tx}
use Rattle.ecf_lang.specs.Meaning.{run}
use Rattle.ecf_lang.specs.Store.{Store, Cells}
use Rattle.ecf_core.specs.declared.book.LogEntry.{LogEntry}
use Rattle.ecf_core.specs.declared.event.Event.{Event}
use Rattle.ecf_core.specs.declared.event.Event.TheVariants as event
use Rattle.ecf_core.specs.declared.event.Reply.{Reply}
use Rattle.ecf_core.specs.declared.event.Reply.TheVariants as reply
use Rattle.ecf_core.specs.Book.{Opening, Book, after_entries}
use Rattle.ecf_core.specs.Calls.{Answer, claim, commit, commit_here, release, reclaim, finish}

-- a run of a row under a ticket, by what it read from the store that came with the row
pub record RowReads : Type 0 where
  pub row : ℕ
  pub ticket : ℕ
  pub reads : Cells

-- what an actor holds
pub data Hand : Type 0 where
  Nothing : Hand
  -- a row, its ticket, and the store when it was given
  Work : ℕ → ℕ → Store → Hand
  -- a run of a row
  Draft : RowReads → Hand
  -- a run that was judged
  Judged : RowReads → Hand
  -- a row to be run while nobody else changes the book, and its ticket
  Here : ℕ → ℕ → Hand

-- a book, the hands of the actors and a queue
pub record Core : Type 0 where
  pub book : Book
  pub hands : List Hand
  pub queue : List RowReads

-- a book with empty hands and an empty queue
abbrev pub initial_core : Book → Core
initial_core b = record { book = b; hands = replicate MAX_ACTORS Nothing; queue = [] }

-- what an actor holds
abbrev pub hand_of : Core → ℕ → Hand
hand_of c a = slice_index_or c.hands a Nothing

-- what an actor does: its reply, the entries that it adds, what the actor holds then, and the queue
pub record Act : Type 0 where
  pub reply : Reply
  pub entries : List LogEntry
  pub hand : Hand
  pub queue : List RowReads

-- a call of the book, by its answer
abbrev pub act_on_book : Core → Answer → Hand → Act
act_on_book c answer hand = record { reply = answer.reply; entries = answer.entries; hand = hand; queue = c.queue }

-- an act in which the book takes no part
abbrev pub act_beside_book : Reply → Hand → List RowReads → Act
act_beside_book r hand queue = record { reply = r; entries = []; hand = hand; queue = queue }

-- an event that doesn't apply changes nothing
abbrev pub refusal : Core → Hand → Act
refusal c hand = act_beside_book reply.Refused hand c.queue

-- what the reply to a claim leaves in the hand
abbrev pub hand_after_claim : Book → Reply → Hand
hand_after_claim b (reply.Work r) = Work r (suc b.tickets) b.ledger.store
hand_after_claim b other = Nothing

-- what the reply to a commit leaves in the hand
abbrev pub hand_after_commit : Book → RowReads → Reply → Hand
hand_after_commit b d (reply.Stale cell was now) = Work d.row d.ticket b.ledger.store
hand_after_commit b d (reply.LastStale cell was now) = Here d.row d.ticket
hand_after_commit b d other = Nothing

-- what the run of a row reads on a store
abbrev pub reads_on : Opening → Store → ℕ → Cells
reads_on o store r = option_map_or (λ (tx : Tx). (run o.typed store tx).reads) (slice_get o.txs r) []

-- a row given back, by its ticket
abbrev pub act_of_release : Core → ℕ → ℕ → Act
act_of_release c r ticket = act_on_book c (release c.book r ticket) Nothing

-- a draft put at the end of the queue, where there is room
abbrev pub act_of_hand : Core → RowReads → Act
act_of_hand c d =
    if nat_lt (length c.queue) MAX_QUEUED
    then act_beside_book reply.Handed Nothing (c.queue ++ d ∷ [])
    else act_beside_book reply.Full (Draft d) c.queue

-- the front of the queue taken, by what the queue is
abbrev pub act_of_take : List RowReads → Act
act_of_take [] = act_beside_book reply.Empty Nothing []
act_of_take (d ∷ queue) = act_beside_book (reply.Took d.row) (Draft d) queue

-- each event, by what its actor holds
unfoldable pub on_claim : Opening → Core → Hand → Act
on_claim o c Nothing = let answer = claim o c.book in act_on_book c answer (hand_after_claim c.book answer.reply)
on_claim o c hand = refusal c hand

unfoldable pub on_run : Opening → Core → Hand → Act
on_run o c (Work r ticket store) =
    act_beside_book reply.Ran (Draft (record { row = r; ticket = ticket; reads = reads_on o store r })) c.queue
on_run o c hand = refusal c hand

unfoldable pub on_hand : Core → Hand → Act
on_hand c (Draft d) = act_of_hand c d
on_hand c hand = refusal c hand

unfoldable pub on_take : Core → Hand → Act
on_take c Nothing = act_of_take c.queue
on_take c hand = refusal c hand

unfoldable pub on_judge : Core → Hand → Act
on_judge c (Draft d) = act_beside_book reply.Judged (Judged d) c.queue
on_judge c hand = refusal c hand

unfoldable pub on_commit : Core → Hand → Act
on_commit c (Judged d) =
    let answer = commit c.book d.row d.ticket d.reads in act_on_book c answer (hand_after_commit c.book d answer.reply)
on_commit c hand = refusal c hand

unfoldable pub on_here : Core → Hand → Act
on_here c (Here r ticket) = act_on_book c (commit_here c.book r ticket) Nothing
on_here c hand = refusal c hand

unfoldable pub on_release : Core → Hand → Act
on_release c Nothing = refusal c Nothing
on_release c (Work r ticket store) = act_of_release c r ticket
on_release c (Draft d) = act_of_release c d.row d.ticket
on_release c (Judged d) = act_of_release c d.row d.ticket
on_release c (Here r ticket) = act_of_release c r ticket

unfoldable pub on_lose : Core → Hand → Act
on_lose c Nothing = refusal c Nothing
on_lose c hand = act_beside_book reply.Lost Nothing c.queue

-- what happens at an event: the reply, the entries added, and the core after it
pub record Happening : Type 0 where
  pub reply : Reply
  pub entries : List LogEntry
  pub core : Core

-- what happens at an act of an actor
abbrev pub happening_of : Opening → Core → ℕ → Act → Happening
happening_of o c a act = record {
  reply = act.reply;
  entries = act.entries;
  core = record { book = after_entries o c.book act.entries; hands = slice_set c.hands a act.hand; queue = act.queue };
}

-- what happens at an event
unfoldable pub happening : Opening → Core → Event → Happening
happening o c (event.Claim a) = happening_of o c a (on_claim o c (hand_of c a))
happening o c (event.Run a) = happening_of o c a (on_run o c (hand_of c a))
happening o c (event.Hand a) = happening_of o c a (on_hand c (hand_of c a))
happening o c (event.Take a) = happening_of o c a (on_take c (hand_of c a))
happening o c (event.Judge a) = happening_of o c a (on_judge c (hand_of c a))
happening o c (event.Commit a) = happening_of o c a (on_commit c (hand_of c a))
happening o c (event.Here a) = happening_of o c a (on_here c (hand_of c a))
happening o c (event.Release a) = happening_of o c a (on_release c (hand_of c a))
happening o c (event.Lose a) = happening_of o c a (on_lose c (hand_of c a))
happening o c event.Reclaim =
    let answer = reclaim c.book in
    record { reply = answer.reply; entries = answer.entries; core = record c { book = after_entries o c.book answer.entries } }

-- the replies to events, one after the other
unfoldable pub replies : Opening → Core → List Event → List Reply
replies o c [] = []
replies o c (e ∷ es) = (happening o c e).reply ∷ replies o (happening o c e).core es

-- the entries that events add, in order
unfoldable pub entries_added : Opening → Core → List Event → List LogEntry
entries_added o c [] = []
entries_added o c (e ∷ es) = (happening o c e).entries ++ entries_added o (happening o c e).core es

-- the core after events
unfoldable pub core_after : Opening → Core → List Event → Core
core_after o c [] = c
core_after o c (e ∷ es) = core_after o (happening o c e).core es

-- the book that a schedule hands back: after its events, and finished
abbrev pub schedule_book : Opening → Book → List Event → Book
schedule_book o b events = let c = core_after o (initial_core b) events in after_entries o c.book (finish c.book)

-- the row that is held
abbrev pub row_in_hand : Hand → ℕ
row_in_hand Nothing = 0
row_in_hand (Work r ticket store) = r
row_in_hand (Draft d) = d.row
row_in_hand (Judged d) = d.row
row_in_hand (Here r ticket) = r

-- what a hand holds
abbrev pub holds_nothing : Hand → Bool
holds_nothing Nothing = true
holds_nothing other = false

abbrev pub holds_work : Hand → Bool
holds_work (Work r ticket store) = true
holds_work other = false

abbrev pub holds_draft : Hand → Bool
holds_draft (Draft d) = true
holds_draft other = false

abbrev pub holds_judged : Hand → Bool
holds_judged (Judged d) = true
holds_judged other = false

abbrev pub holds_here : Hand → Bool
holds_here (Here r ticket) = true
holds_here other = false

-- whether an event applies to what its actor holds
abbrev pub applies : Event → Hand → Bool
applies (event.Claim a) hand = holds_nothing hand
applies (event.Run a) hand = holds_work hand
applies (event.Hand a) hand = holds_draft hand
applies (event.Take a) hand = holds_nothing hand
applies (event.Judge a) hand = holds_draft hand
applies (event.Commit a) hand = holds_judged hand
applies (event.Here a) hand = holds_here hand
applies (event.Release a) hand = not (holds_nothing hand)
applies (event.Lose a) hand = not (holds_nothing hand)
applies event.Reclaim hand = true

-- whose event it is
abbrev pub actor_of : Event → Option ℕ
actor_of (event.Claim a) = Some a
actor_of (event.Run a) = Some a
actor_of (event.Hand a) = Some a
actor_of (event.Take a) = Some a
actor_of (event.Judge a) = Some a
actor_of (event.Commit a) = Some a
actor_of (event.Here a) = Some a
actor_of (event.Release a) = Some a
actor_of (event.Lose a) = Some a
actor_of event.Reclaim = None

-- what the event's actor holds; nothing where it is nobody's
abbrev pub hand_at : Core → Event → Hand
hand_at c e = option_map_or (hand_of c) (actor_of e) Nothing

-- the row and the number that a reply says was placed
abbrev pub placing_named : Hand → Reply → List (ℕ × ℕ)
placing_named hand (reply.Placed seq) = (row_in_hand hand, seq) ∷ []
placing_named hand other = []

-- the rows and numbers that the replies to events say were placed, in order
unfoldable pub placings : Opening → Core → List Event → List (ℕ × ℕ)
placings o c [] = []
placings o c (e ∷ es) = placing_named (hand_at c e) (happening o c e).reply ++ placings o (happening o c e).core es
