-- Whatever events come, a row is run on the present store only after its last stale commit.
use Rattle.std.proofs.Common.{◌≡◌, ℕ, suc, zero, ◌==◌, Bool, true, false, cond, List, [], ◌∷◌, ◌++◌, length, get_or, Option, Some, None, refl, sym, ap, ◌∙◌, subst, arith}
use Rattle.std.specs.Prelude.{slice_set, replicate, nat_lt, ⊤}
use Rattle.std.specs.List.{list_any}
use Rattle.std.proofs.lemmas.Bool.{ltb-false, eq-eqb}
use Rattle.ecf_lang.specs.declared.cell.Cell.{Cell}
use Rattle.ecf_lang.specs.declared.limits.TheConstants.{MAX_ACTORS, MAX_STALES, MAX_QUEUED}
use Rattle.ecf_lang.specs.Store.{read}
use Rattle.ecf_verdicts.specs.ListLemmas.{Any_from_Has}
use Rattle.ecf_core.specs.declared.book.LogEntry.{LogEntry}
use Rattle.ecf_core.specs.declared.book.LogWhat.TheVariants as log
use Rattle.ecf_core.specs.declared.event.Event.{Event}
use Rattle.ecf_core.specs.declared.event.Event.TheVariants as event
use Rattle.ecf_core.specs.declared.event.Reply.TheVariants as reply
use Rattle.ecf_core.specs.declared.book.RowState.{RowState}
use Rattle.ecf_core.specs.declared.book.RowState.TheVariants as row
use Rattle.ecf_core.specs.Book.{Opening, Book, row_at, is_claimed, stales_under, next_seq, claimable_row, after_entries, after}
use Rattle.ecf_core.specs.Calls.{Answer, reply_only, reply_with, claim_answer, claim, first_changed_read, stale_answer, commit_answer, if_held, commit, commit_here, release, freeing_entries, reclaim}
use Rattle.ecf_core.specs.Core.{RowReads, Hand, Nothing, Work, Draft, Judged, Here, Core, Act, act_on_book, act_beside_book, refusal, hand_after_claim, hand_after_commit, act_of_take, act_of_release, hand_of, on_claim, on_run, on_hand, on_take, on_judge, on_commit, on_here, on_release, on_lose, happening_of, happening, initial_core, entries_added}
use Rattle.ecf_core.specs.Legal.{AreLegal, IsHistory}
use Rattle.ecf_core.specs.RoundLemmas.{due_after}
use Rattle.ecf_core.specs.Rounds.{AreDue, EventsAreDue}
use Rattle.ecf_core.proofs.ListLaws.{false_not_true}
use Rattle.ecf_core.proofs.CallLaws.{after_more, legal_more}
use Rattle.ecf_core.proofs.EventLaws.{stepped}
use Rattle.ecf_core.proofs.RoundLaws.{Logged, AllLogged, more_logged, last_logged, all_logged}

-- a row that is held to be run on the present store has its last stale commit among the entries
abbrev pub Known : List LogEntry → Hand → Type 0
Known es Nothing = ⊤
Known es (Work r t store) = ⊤
Known es (Draft d) = ⊤
Known es (Judged d) = ⊤
Known es (Here r t) = Logged es r t

known_more : (es fs : List LogEntry) (hand : Hand) → Known es hand → Known (es ++ fs) hand
known_more es fs Nothing h = tt
known_more es fs (Work r t store) h = tt
known_more es fs (Draft d) h = tt
known_more es fs (Judged d) h = tt
known_more es fs (Here r t) h = more_logged es fs r t h

-- an act's entries are due, and what is held after it is known
record IsDueAct (es : List LogEntry) (act : Act) : Type 0 where
  due : AreDue es act.entries
  hand : Known (es ++ act.entries) act.hand

refused : (es : List LogEntry) (c : Core) (hand : Hand) → Known es hand → IsDueAct es (refusal c hand)
refused es c hand h = record { due = tt; hand = known_more es [] hand h }

offered : (es : List LogEntry) (c : Core) (x : Option ℕ) → (let answer = claim_answer c.book x in IsDueAct es (act_on_book c answer (hand_after_claim c.book answer.reply)))
offered es c (Some r) = record { due = (tt, tt); hand = tt }
offered es c None = go (list_any is_claimed c.book.rows)
  where
    go : (b : Bool) → (let answer = reply_only (cond b reply.Later reply.Over) in IsDueAct es (act_on_book c answer (hand_after_claim c.book answer.reply)))
    go true = record { due = tt; hand = tt }
    go false = record { due = tt; hand = tt }

claim_due : (o : Opening) (es : List LogEntry) (c : Core) (hand : Hand) → Known es hand → IsDueAct es (on_claim o c hand)
unfolding on_claim claim
claim_due o es c Nothing h = offered es c (claimable_row o c.book)
claim_due o es c (Work r t store) h = refused es c (Work r t store) h
claim_due o es c (Draft d) h = refused es c (Draft d) h
claim_due o es c (Judged d) h = refused es c (Judged d) h
claim_due o es c (Here r t) h = refused es c (Here r t) h

run_due : (o : Opening) (es : List LogEntry) (c : Core) (hand : Hand) → Known es hand → IsDueAct es (on_run o c hand)
unfolding on_run
run_due o es c Nothing h = refused es c Nothing h
run_due o es c (Work r t store) h = record { due = tt; hand = tt }
run_due o es c (Draft d) h = refused es c (Draft d) h
run_due o es c (Judged d) h = refused es c (Judged d) h
run_due o es c (Here r t) h = refused es c (Here r t) h

hand_due : (es : List LogEntry) (c : Core) (hand : Hand) → Known es hand → IsDueAct es (on_hand c hand)
unfolding on_hand
hand_due es c Nothing h = refused es c Nothing h
hand_due es c (Work r t store) h = refused es c (Work r t store) h
hand_due es c (Draft d) h = go (nat_lt (length c.queue) MAX_QUEUED)
  where
    go : (b : Bool) → IsDueAct es (cond b (act_beside_book reply.Handed Nothing (c.queue ++ d ∷ [])) (act_beside_book reply.Full (Draft d) c.queue))
    go true = record { due = tt; hand = tt }
    go false = record { due = tt; hand = tt }
hand_due es c (Judged d) h = refused es c (Judged d) h
hand_due es c (Here r t) h = refused es c (Here r t) h

take_due : (es : List LogEntry) (c : Core) (hand : Hand) → Known es hand → IsDueAct es (on_take c hand)
unfolding on_take
take_due es c Nothing h = go c.queue
  where
    go : (q : List RowReads) → IsDueAct es (act_of_take q)
    go [] = record { due = tt; hand = tt }
    go (d ∷ q) = record { due = tt; hand = tt }
take_due es c (Work r t store) h = refused es c (Work r t store) h
take_due es c (Draft d) h = refused es c (Draft d) h
take_due es c (Judged d) h = refused es c (Judged d) h
take_due es c (Here r t) h = refused es c (Here r t) h

judge_due : (es : List LogEntry) (c : Core) (hand : Hand) → Known es hand → IsDueAct es (on_judge c hand)
unfolding on_judge
judge_due es c Nothing h = refused es c Nothing h
judge_due es c (Work r t store) h = refused es c (Work r t store) h
judge_due es c (Draft d) h = record { due = tt; hand = tt }
judge_due es c (Judged d) h = refused es c (Judged d) h
judge_due es c (Here r t) h = refused es c (Here r t) h

abbrev Committed : List LogEntry → Core → RowReads → Answer → Type 0
Committed es c d answer = IsDueAct es (act_on_book c answer (hand_after_commit c.book d answer.reply))

stale_due : (es : List LogEntry) (c : Core) (d : RowReads) (n : ℕ) (cell : Cell) (was now : ℕ) → AllLogged es c.book.rows → stales_under d.ticket (row_at c.book d.row) ≡ Some n → Committed es c d (stale_answer d.row d.ticket n cell was now)
unfolding stale_answer
stale_due es c d n cell was now logged held = go (nat_lt (suc n) MAX_STALES) refl (suc n == MAX_STALES) refl
  where
    go : (a : Bool) → nat_lt (suc n) MAX_STALES ≡ a → (b : Bool) → (suc n == MAX_STALES) ≡ b → Committed es c d (cond a (reply_with (reply.Stale cell was now) d.row d.ticket (log.Stale cell was now)) (cond b (reply_with (reply.LastStale cell was now) d.row d.ticket (log.LastStale cell was now)) (reply_only (reply.LastStale cell was now))))
    go true e b f = record { due = (tt, tt); hand = tt }
    go false e true f = record { due = (tt, tt); hand = last_logged es (record { row = d.row; ticket = d.ticket; what = log.LastStale cell was now }) d.row d.ticket (refl, refl, tt) }
    go false e false f = record { due = tt; hand = more_logged es [] d.row d.ticket (logged d.row d.ticket n held (omega (arith, ltb-false (suc n) MAX_STALES e, λ (same : suc n ≡ MAX_STALES). false_not_true {A = ⊥} f (eq-eqb (suc n) MAX_STALES same)))) }

answered_due : (es : List LogEntry) (c : Core) (d : RowReads) (n : ℕ) (y : Option (Cell × ℕ)) → AllLogged es c.book.rows → stales_under d.ticket (row_at c.book d.row) ≡ Some n → Committed es c d (commit_answer c.book d.row d.ticket n y)
answered_due es c d n None logged held = record { due = (tt, tt); hand = tt }
answered_due es c d n (Some pair) logged held = stale_due es c d n pair.0 pair.1 (read c.book.ledger.store pair.0) logged held

committed_due : (es : List LogEntry) (c : Core) (d : RowReads) (x : Option ℕ) → AllLogged es c.book.rows → stales_under d.ticket (row_at c.book d.row) ≡ x → Committed es c d (if_held c.book d.row x (λ n. commit_answer c.book d.row d.ticket n (first_changed_read d.reads c.book.ledger.store)))
committed_due es c d None logged e = record { due = tt; hand = tt }
committed_due es c d (Some n) logged e = answered_due es c d n (first_changed_read d.reads c.book.ledger.store) logged e

commit_due : (es : List LogEntry) (c : Core) (hand : Hand) → AllLogged es c.book.rows → Known es hand → IsDueAct es (on_commit c hand)
unfolding on_commit commit
commit_due es c Nothing logged h = refused es c Nothing h
commit_due es c (Work r t store) logged h = refused es c (Work r t store) h
commit_due es c (Draft d) logged h = refused es c (Draft d) h
commit_due es c (Judged d) logged h = committed_due es c d (stales_under d.ticket (row_at c.book d.row)) logged refl
commit_due es c (Here r t) logged h = refused es c (Here r t) h

placed_due : (es : List LogEntry) (c : Core) (r t : ℕ) (x : Option ℕ) → Logged es r t → IsDueAct es (act_on_book c (if_held c.book r x (λ _. reply_with (reply.Placed (next_seq c.book)) r t (log.Here (next_seq c.book)))) Nothing)
placed_due es c r t None h = record { due = tt; hand = tt }
placed_due es c r t (Some n) h = record { due = (Any_from_Has _ es h, tt); hand = tt }

here_due : (es : List LogEntry) (c : Core) (hand : Hand) → Known es hand → IsDueAct es (on_here c hand)
unfolding on_here commit_here
here_due es c Nothing h = refused es c Nothing h
here_due es c (Work r t store) h = refused es c (Work r t store) h
here_due es c (Draft d) h = refused es c (Draft d) h
here_due es c (Judged d) h = refused es c (Judged d) h
here_due es c (Here r t) h = placed_due es c r t (stales_under t (row_at c.book r)) h

freed_due : (es : List LogEntry) (c : Core) (r t : ℕ) → IsDueAct es (act_of_release c r t)
unfolding release
freed_due es c r t = go (stales_under t (row_at c.book r))
  where
    go : (x : Option ℕ) → IsDueAct es (act_on_book c (if_held c.book r x (λ _. reply_with reply.Freed r t log.Freed)) Nothing)
    go None = record { due = tt; hand = tt }
    go (Some n) = record { due = (tt, tt); hand = tt }

release_due : (es : List LogEntry) (c : Core) (hand : Hand) → Known es hand → IsDueAct es (on_release c hand)
unfolding on_release
release_due es c Nothing h = refused es c Nothing h
release_due es c (Work r t store) h = freed_due es c r t
release_due es c (Draft d) h = freed_due es c d.row d.ticket
release_due es c (Judged d) h = freed_due es c d.row d.ticket
release_due es c (Here r t) h = freed_due es c r t

lose_due : (es : List LogEntry) (c : Core) (hand : Hand) → Known es hand → IsDueAct es (on_lose c hand)
unfolding on_lose
lose_due es c Nothing h = refused es c Nothing h
lose_due es c (Work r t store) h = record { due = tt; hand = tt }
lose_due es c (Draft d) h = record { due = tt; hand = tt }
lose_due es c (Judged d) h = record { due = tt; hand = tt }
lose_due es c (Here r t) h = record { due = tt; hand = tt }

-- all that is held is known
abbrev pub AllKnown : List LogEntry → List Hand → Type 0
AllKnown es hands = (a : ℕ) → Known es (get_or hands a Nothing)

set_known : (es : List LogEntry) (hands : List Hand) (a : ℕ) (x : Hand) → Known es x → AllKnown es hands → AllKnown es (slice_set hands a x)
set_known es [] a x new old = old
set_known es (y ∷ hands) zero x new old = λ q. first q
  where
    first : (q : ℕ) → Known es (get_or (x ∷ hands) q Nothing)
    first zero = new
    first (suc q) = old (suc q)
set_known es (y ∷ hands) (suc a) x new old = λ q. first (set_known es hands a x new (λ q. old (suc q))) q
  where
    first : AllKnown es (slice_set hands a x) → (q : ℕ) → Known es (get_or (y ∷ slice_set hands a x) q Nothing)
    first later zero = old zero
    first later (suc q) = later q

none_known : (es : List LogEntry) (n : ℕ) → AllKnown es (replicate n Nothing)
none_known es zero = λ a. tt
none_known es (suc n) = λ a. first (none_known es n) a
  where
    first : AllKnown es (replicate n Nothing) → (a : ℕ) → Known es (get_or (Nothing ∷ replicate n Nothing) a Nothing)
    first later zero = tt
    first later (suc a) = later a

-- what happens at an event: its entries are due, and what is held after it is known
record IsDueEvent (es entries : List LogEntry) (held : List Hand) : Type 0 where
  due : AreDue es entries
  known : AllKnown (es ++ entries) held

acted : (o : Opening) (es : List LogEntry) (c : Core) (a : ℕ) (act : Act) → AllKnown es c.hands → IsDueAct es act → (let h = happening_of o c a act in IsDueEvent es h.entries h.core.hands)
acted o es c a act known h = record { due = h.due; known = set_known (es ++ act.entries) c.hands a act.hand h.hand (λ q. known_more es act.entries (get_or c.hands q Nothing) (known q)) }

freeing_due : (es : List LogEntry) (at : ℕ) (rows : List RowState) → AreDue es (freeing_entries at rows)
unfolding freeing_entries
freeing_due es at [] = tt
freeing_due es at (row.Free claims ∷ rows) = freeing_due es (suc at) rows
freeing_due es at (row.Claimed ticket claims stales ∷ rows) = (tt, freeing_due (es ++ record { row = at; ticket = ticket; what = log.Freed } ∷ []) (suc at) rows)
freeing_due es at (row.Done seq ∷ rows) = freeing_due es (suc at) rows

event_due : (o : Opening) (es : List LogEntry) (c : Core) (e : Event) → AllLogged es c.book.rows → AllKnown es c.hands → (let h = happening o c e in IsDueEvent es h.entries h.core.hands)
unfolding happening reclaim
event_due o es c (event.Claim a) logged known = acted o es c a _ known (claim_due o es c (hand_of c a) (known a))
event_due o es c (event.Run a) logged known = acted o es c a _ known (run_due o es c (hand_of c a) (known a))
event_due o es c (event.Hand a) logged known = acted o es c a _ known (hand_due es c (hand_of c a) (known a))
event_due o es c (event.Take a) logged known = acted o es c a _ known (take_due es c (hand_of c a) (known a))
event_due o es c (event.Judge a) logged known = acted o es c a _ known (judge_due es c (hand_of c a) (known a))
event_due o es c (event.Commit a) logged known = acted o es c a _ known (commit_due es c (hand_of c a) logged (known a))
event_due o es c (event.Here a) logged known = acted o es c a _ known (here_due es c (hand_of c a) (known a))
event_due o es c (event.Release a) logged known = acted o es c a _ known (release_due es c (hand_of c a) (known a))
event_due o es c (event.Lose a) logged known = acted o es c a _ known (lose_due es c (hand_of c a) (known a))
event_due o es c event.Reclaim logged known = record { due = freeing_due es 0 c.book.rows; known = λ q. known_more es (freeing_entries 0 c.book.rows) (get_or c.hands q Nothing) (known q) }

events_due : (o : Opening) (es : List LogEntry) (c : Core) (events : List Event) → IsHistory o es → c.book ≡ after o es → AllKnown es c.hands → AreDue es (entries_added o c events)
unfolding entries_added
events_due o es c [] history is known = tt
events_due o es c (e ∷ events) history is known =
    let h = happening o c e in
    let s = stepped o c e in
    let d = event_due o es c e (subst (λ (b : Book). AllLogged es b.rows) (sym is) (all_logged o es history)) known in
    let longer : IsHistory o (es ++ h.entries) = legal_more o _ es h.entries history (subst (λ b. AreLegal o b h.entries) is s.says.legal) in
    let now : h.core.book ≡ after o (es ++ h.entries) = s.book ∙ ap (λ b. after_entries o b h.entries) is ∙ sym (after_more o _ es h.entries) in
    due_after es h.entries (entries_added o h.core events) d.due (events_due o (es ++ h.entries) h.core events longer now d.known)

pub events_are_due : EventsAreDue
events_are_due o es events history = events_due o es (initial_core (after o es)) events history refl (none_known es MAX_ACTORS)
