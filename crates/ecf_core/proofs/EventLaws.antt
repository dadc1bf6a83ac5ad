-- Lists of events.
use Rattle.std.proofs.Common.{◌≡◌, ℕ, suc, zero, ◌+◌, ◌==◌, Bool, true, false, cond, not, List, [], ◌∷◌, ◌++◌, length, map, Option, Some, None, refl, sym, ap, ◌∙◌, subst, arith}
use Rattle.std.specs.Prelude.{filter, nat_lt}
use Rattle.std.specs.List.{range_with_len, list_any}
use Rattle.std.proofs.lemmas.List.{append_assoc, append-nil, map-append, length-append, length-map, length_push, get_or_at}
use Rattle.std.proofs.lemmas.List.Elements.{filter-append}
use Rattle.ecf_lang.specs.declared.cell.Cell.{Cell}
use Rattle.ecf_lang.specs.declared.limits.TheConstants.{MAX_STALES, MAX_QUEUED}
use Rattle.ecf_lang.specs.Store.{read}
use Rattle.ecf_core.specs.declared.book.RowState.{RowState}
use Rattle.ecf_core.specs.declared.book.RowState.TheVariants as row
use Rattle.ecf_core.specs.declared.book.LogEntry.{LogEntry}
use Rattle.ecf_core.specs.declared.book.LogWhat.TheVariants as log
use Rattle.ecf_core.specs.declared.event.Event.{Event}
use Rattle.ecf_core.specs.declared.event.Event.TheVariants as event
use Rattle.ecf_core.specs.declared.event.Reply.{Reply}
use Rattle.ecf_core.specs.declared.event.Reply.TheVariants as reply
use Rattle.ecf_core.specs.Book.{Opening, Book, row_at, is_claimed, is_done, stales_under, next_seq, claimable_row, after_entries, after}
use Rattle.ecf_core.specs.Legal.{AreLegal}
use Rattle.ecf_core.specs.Calls.{Answer, reply_only, reply_with, claim_answer, claim, first_changed_read, stale_answer, commit_answer, if_held, commit, commit_here, release, freeing_entries, reclaim, finishing_entries, finish}
use Rattle.ecf_core.specs.Counts.{placed_rows, places_row}
use Rattle.ecf_core.specs.Core.{RowReads, Hand, Nothing, Work, Draft, Judged, Here, Core, Act, act_beside_book, act_of_take, Happening, hand_of, hand_at, initial_core, on_claim, on_run, on_hand, on_take, on_judge, on_commit, on_here, on_release, on_lose, happening, core_after, entries_added, placing_named, placings}
use Rattle.ecf_core.specs.Laws.{open_rows, EveryListOfEvents}
use Rattle.ecf_core.proofs.RowLaws.{state}
use Rattle.ecf_core.proofs.GrowthLaws.{journal_grows}
use Rattle.ecf_core.proofs.ReachLaws.{Sound, sound, sound_from}
use Rattle.ecf_core.proofs.CallLaws.{claim_legal, commit_legal, here_legal, release_legal, reclaim_legal, after_more, legal_more}

-- what entries place, against what a reply names
pub record Says (o : Opening) (b : Book) (hand : Hand) (r : Reply) (entries : List LogEntry) : Type 0 where
  pub legal : AreLegal o b entries
  pub rows : placed_rows entries ≡ map (λ p. p.0) (placing_named hand r)
  pub numbers : map (λ p. p.1) (placing_named hand r) ≡ range_with_len (next_seq b) (length (placing_named hand r))

-- an answer that places nothing names nothing, and one that places names it
abbrev Names : Book → Hand → Answer → Type 0
Names b hand a = (placed_rows a.entries ≡ map (λ p. p.0) (placing_named hand a.reply)) × (map (λ p. p.1) (placing_named hand a.reply) ≡ range_with_len (next_seq b) (length (placing_named hand a.reply)))

offered_names : (b : Book) (hand : Hand) (x : Option ℕ) → Names b hand (claim_answer b x)
offered_names b hand (Some r) = (refl, refl)
offered_names b hand None = go (list_any is_claimed b.rows)
  where
    go : (c : Bool) → ([] ≡ map (λ p. p.0) (placing_named hand (cond c reply.Later reply.Over))) × (map (λ p. p.1) (placing_named hand (cond c reply.Later reply.Over)) ≡ range_with_len (next_seq b) (length (placing_named hand (cond c reply.Later reply.Over))))
    go true = (refl, refl)
    go false = (refl, refl)

stale_names : (b : Book) (hand : Hand) (r ticket n : ℕ) (cell : Cell) (was now : ℕ) → Names b hand (stale_answer r ticket n cell was now)
unfolding stale_answer
stale_names b hand r ticket n cell was now = go (nat_lt (suc n) MAX_STALES) (suc n == MAX_STALES)
  where
    go : (a c : Bool) → Names b hand (cond a (reply_with (reply.Stale cell was now) r ticket (log.Stale cell was now)) (cond c (reply_with (reply.LastStale cell was now) r ticket (log.LastStale cell was now)) (reply_only (reply.LastStale cell was now))))
    go true c = (refl, refl)
    go false true = (refl, refl)
    go false false = (refl, refl)

validated_names : (b : Book) (d : RowReads) (n : ℕ) (x : Option (Cell × ℕ)) → Names b (Judged d) (commit_answer b d.row d.ticket n x)
validated_names b d n None = (refl, refl)
validated_names b d n (Some pair) = stale_names b (Judged d) d.row d.ticket n pair.0 pair.1 (read b.ledger.store pair.0)

held_names : (b : Book) (hand : Hand) (r : ℕ) (x : Option ℕ) (next : ℕ → Answer) → ((n : ℕ) → Names b hand (next n)) → Names b hand (if_held b r x next)
held_names b hand r None next h = (refl, refl)
held_names b hand r (Some n) next h = h n

from_names : (o : Opening) (b : Book) (hand : Hand) (a : Answer) → AreLegal o b a.entries → Names b hand a → Says o b hand a.reply a.entries
from_names o b hand a legal n = record { legal = legal; rows = n.0; numbers = n.1 }

-- a step that the book takes no part in
apart : (o : Opening) (b : Book) (hand : Hand) (r : Reply) → placing_named hand r ≡ [] → Says o b hand r []
apart o b hand r e = record { legal = tt; rows = ap (map (λ p. p.0)) (sym e); numbers = ap (map (λ p. p.1)) e ∙ ap (λ l. range_with_len (next_seq b) (length l)) (sym e) }

releases_says : (o : Opening) (b : Book) (hand : Hand) (r ticket : ℕ) → Says o b hand (release b r ticket).reply (release b r ticket).entries
unfolding release
releases_says o b hand r ticket = from_names o b hand (release b r ticket) (release_legal o b r ticket) (held_names b hand r (stales_under ticket (row_at b r)) _ (λ n. (refl, refl)))

claims_says : (o : Opening) (c : Core) (hand : Hand) → Says o c.book hand (on_claim o c hand).reply (on_claim o c hand).entries
unfolding on_claim claim
claims_says o c Nothing = from_names o c.book Nothing (claim o c.book) (claim_legal o c.book) (offered_names c.book Nothing (claimable_row o c.book))
claims_says o c (Work r t s) = apart o c.book (Work r t s) reply.Refused refl
claims_says o c (Draft d) = apart o c.book (Draft d) reply.Refused refl
claims_says o c (Judged d) = apart o c.book (Judged d) reply.Refused refl
claims_says o c (Here r t) = apart o c.book (Here r t) reply.Refused refl

runs_says : (o : Opening) (c : Core) (hand : Hand) → Says o c.book hand (on_run o c hand).reply (on_run o c hand).entries
unfolding on_run
runs_says o c Nothing = apart o c.book Nothing reply.Refused refl
runs_says o c (Work r t s) = apart o c.book (Work r t s) reply.Ran refl
runs_says o c (Draft d) = apart o c.book (Draft d) reply.Refused refl
runs_says o c (Judged d) = apart o c.book (Judged d) reply.Refused refl
runs_says o c (Here r t) = apart o c.book (Here r t) reply.Refused refl

hands_says : (o : Opening) (c : Core) (hand : Hand) → Says o c.book hand (on_hand c hand).reply (on_hand c hand).entries
unfolding on_hand
hands_says o c Nothing = apart o c.book Nothing reply.Refused refl
hands_says o c (Work r t s) = apart o c.book (Work r t s) reply.Refused refl
hands_says o c (Draft d) = go (nat_lt (length c.queue) MAX_QUEUED)
  where
    go : (x : Bool) → (let s : Act = cond x (act_beside_book reply.Handed Nothing (c.queue ++ d ∷ [])) (act_beside_book reply.Full (Draft d) c.queue) in Says o c.book (Draft d) s.reply s.entries)
    go true = apart o c.book (Draft d) reply.Handed refl
    go false = apart o c.book (Draft d) reply.Full refl
hands_says o c (Judged d) = apart o c.book (Judged d) reply.Refused refl
hands_says o c (Here r t) = apart o c.book (Here r t) reply.Refused refl

takes_says : (o : Opening) (c : Core) (hand : Hand) → Says o c.book hand (on_take c hand).reply (on_take c hand).entries
unfolding on_take
takes_says o c Nothing = go c.queue
  where
    go : (q : List RowReads) → Says o c.book Nothing (act_of_take q).reply (act_of_take q).entries
    go [] = apart o c.book Nothing reply.Empty refl
    go (d ∷ q) = apart o c.book Nothing (reply.Took d.row) refl
takes_says o c (Work r t s) = apart o c.book (Work r t s) reply.Refused refl
takes_says o c (Draft d) = apart o c.book (Draft d) reply.Refused refl
takes_says o c (Judged d) = apart o c.book (Judged d) reply.Refused refl
takes_says o c (Here r t) = apart o c.book (Here r t) reply.Refused refl

judges_says : (o : Opening) (c : Core) (hand : Hand) → Says o c.book hand (on_judge c hand).reply (on_judge c hand).entries
unfolding on_judge
judges_says o c Nothing = apart o c.book Nothing reply.Refused refl
judges_says o c (Work r t s) = apart o c.book (Work r t s) reply.Refused refl
judges_says o c (Draft d) = apart o c.book (Draft d) reply.Judged refl
judges_says o c (Judged d) = apart o c.book (Judged d) reply.Refused refl
judges_says o c (Here r t) = apart o c.book (Here r t) reply.Refused refl

commits_says : (o : Opening) (c : Core) (hand : Hand) → Says o c.book hand (on_commit c hand).reply (on_commit c hand).entries
unfolding on_commit commit
commits_says o c Nothing = apart o c.book Nothing reply.Refused refl
commits_says o c (Work r t s) = apart o c.book (Work r t s) reply.Refused refl
commits_says o c (Draft d) = apart o c.book (Draft d) reply.Refused refl
commits_says o c (Judged d) = from_names o c.book (Judged d) (commit c.book d.row d.ticket d.reads) (commit_legal o c.book d.row d.ticket d.reads) (held_names c.book (Judged d) d.row (stales_under d.ticket (row_at c.book d.row)) _ (λ n. validated_names c.book d n (first_changed_read d.reads c.book.ledger.store)))
commits_says o c (Here r t) = apart o c.book (Here r t) reply.Refused refl

here_says : (o : Opening) (c : Core) (hand : Hand) → Says o c.book hand (on_here c hand).reply (on_here c hand).entries
unfolding on_here commit_here
here_says o c Nothing = apart o c.book Nothing reply.Refused refl
here_says o c (Work r t s) = apart o c.book (Work r t s) reply.Refused refl
here_says o c (Draft d) = apart o c.book (Draft d) reply.Refused refl
here_says o c (Judged d) = apart o c.book (Judged d) reply.Refused refl
here_says o c (Here r t) = from_names o c.book (Here r t) (commit_here c.book r t) (here_legal o c.book r t) (held_names c.book (Here r t) r (stales_under t (row_at c.book r)) _ (λ n. (refl, refl)))

release_says : (o : Opening) (c : Core) (hand : Hand) → Says o c.book hand (on_release c hand).reply (on_release c hand).entries
unfolding on_release
release_says o c Nothing = apart o c.book Nothing reply.Refused refl
release_says o c (Work r t s) = releases_says o c.book (Work r t s) r t
release_says o c (Draft d) = releases_says o c.book (Draft d) d.row d.ticket
release_says o c (Judged d) = releases_says o c.book (Judged d) d.row d.ticket
release_says o c (Here r t) = releases_says o c.book (Here r t) r t

loses_says : (o : Opening) (c : Core) (hand : Hand) → Says o c.book hand (on_lose c hand).reply (on_lose c hand).entries
unfolding on_lose
loses_says o c Nothing = apart o c.book Nothing reply.Refused refl
loses_says o c (Work r t s) = apart o c.book (Work r t s) reply.Lost refl
loses_says o c (Draft d) = apart o c.book (Draft d) reply.Lost refl
loses_says o c (Judged d) = apart o c.book (Judged d) reply.Lost refl
loses_says o c (Here r t) = apart o c.book (Here r t) reply.Lost refl

-- entries that free rows place none
free_places : (at : ℕ) (rows : List RowState) → placed_rows (freeing_entries at rows) ≡ []
unfolding freeing_entries
free_places at [] = refl
free_places at (row.Free c ∷ rows) = free_places (suc at) rows
free_places at (row.Claimed t c s ∷ rows) = free_places (suc at) rows
free_places at (row.Done n ∷ rows) = free_places (suc at) rows

reclaim_says : (o : Opening) (b : Book) → Says o b Nothing (reclaim b).reply (reclaim b).entries
unfolding reclaim
reclaim_says o b = record { legal = reclaim_legal o b; rows = free_places 0 b.rows; numbers = refl }

-- each event says what it places, and the book after it is the change by its entries
pub record Stepped (o : Opening) (c : Core) (e : Event) (h : Happening) : Type 0 where
  pub says : Says o c.book (hand_at c e) h.reply h.entries
  pub book : h.core.book ≡ after_entries o c.book h.entries

pub stepped : (o : Opening) (c : Core) (e : Event) → Stepped o c e (happening o c e)
unfolding happening
stepped o c (event.Claim a) = record { says = claims_says o c (hand_of c a); book = refl }
stepped o c (event.Run a) = record { says = runs_says o c (hand_of c a); book = refl }
stepped o c (event.Hand a) = record { says = hands_says o c (hand_of c a); book = refl }
stepped o c (event.Take a) = record { says = takes_says o c (hand_of c a); book = refl }
stepped o c (event.Judge a) = record { says = judges_says o c (hand_of c a); book = refl }
stepped o c (event.Commit a) = record { says = commits_says o c (hand_of c a); book = refl }
stepped o c (event.Here a) = record { says = here_says o c (hand_of c a); book = refl }
stepped o c (event.Release a) = record { says = release_says o c (hand_of c a); book = refl }
stepped o c (event.Lose a) = record { says = loses_says o c (hand_of c a); book = refl }
stepped o c event.Reclaim = record { says = reclaim_says o c.book; book = refl }

range_append : (a n m : ℕ) → range_with_len a n ++ range_with_len (a + n) m ≡ range_with_len a (n + m)
range_append a zero m = ap (λ x. range_with_len x m) (let e : a + 0 ≡ a = omega arith in e) ∙ ap (range_with_len a) (let e : m ≡ 0 + m = omega arith in e)
range_append a (suc n) m =
    ap (λ l. a ∷ l) (ap (λ x. range_with_len (a + 1) n ++ range_with_len x m) (let e : a + suc n ≡ (a + 1) + n = omega arith in e) ∙ range_append (a + 1) n m)
    ∙ ap (range_with_len a) (let e : suc (n + m) ≡ suc n + m = omega arith in e)

-- what a list of events comes to
pub record Leads (o : Opening) (c : Core) (events : List Event) : Type 0 where
  pub legal : AreLegal o c.book (entries_added o c events)
  pub book : (core_after o c events).book ≡ after_entries o c.book (entries_added o c events)
  pub journal : (core_after o c events).book.journal ≡ c.book.journal ++ map (λ p. p.0) (placings o c events)
  pub numbers : map (λ p. p.1) (placings o c events) ≡ range_with_len (next_seq c.book) (length (placings o c events))

pub leads : (o : Opening) (c : Core) (events : List Event) → Leads o c events
unfolding core_after entries_added placings after_entries
leads o c [] = record { legal = tt; book = refl; journal = sym (append-nil c.book.journal); numbers = refl }
leads o c (e ∷ events) =
    let h = happening o c e in
    let s = stepped o c e in
    let w = leads o h.core events in
    let more = entries_added o h.core events in
    let names = placing_named (hand_at c e) h.reply in
    let rest = placings o h.core events in
    let grown : h.core.book.journal ≡ c.book.journal ++ map (λ p. p.0) names = ap (λ (b : Book). b.journal) s.book ∙ journal_grows o c.book h.entries ∙ ap (λ l. c.book.journal ++ l) s.says.rows in
    let next : next_seq h.core.book ≡ next_seq c.book + length names = ap (λ l. suc (length l)) grown ∙ omega (arith, length-append c.book.journal (map (λ p. p.0) names), length-map names (λ p. p.0)) in
    record {
      legal = legal_more o c.book h.entries more s.says.legal (subst (λ b. AreLegal o b more) s.book w.legal);
      book = w.book ∙ ap (λ b. after_entries o b more) s.book ∙ sym (after_more o c.book h.entries more);
      journal = w.journal ∙ ap (λ l. l ++ map (λ p. p.0) rest) grown ∙ append_assoc c.book.journal (map (λ p. p.0) names) (map (λ p. p.0) rest) ∙ ap (λ l. c.book.journal ++ l) (sym (map-append (λ p. p.0) names rest));
      numbers = map-append (λ p. p.1) names rest ∙ ap (λ l. l ++ map (λ p. p.1) rest) s.says.numbers ∙ ap (λ l. range_with_len (next_seq c.book) (length names) ++ l) (w.numbers ∙ ap (λ n. range_with_len n (length rest)) next) ∙ range_append (next_seq c.book) (length names) (length rest) ∙ ap (range_with_len (next_seq c.book)) (sym (length-append names rest));
    }

onward : (front : List RowState) (x : RowState) (rest : List RowState) (at : ℕ) → length front ≡ at → {placed : List ℕ} → placed ≡ filter (λ r. not (is_done (state ((front ++ x ∷ []) ++ rest) r))) (range_with_len (suc at) (length rest)) → placed ≡ filter (λ r. not (is_done (state (front ++ x ∷ rest) r))) (range_with_len (at + 1) (length rest))
onward front x rest at l e =
    let next : suc at ≡ at + 1 = omega arith in
    e ∙ ap (λ rows. filter (λ r. not (is_done (state rows r))) (range_with_len (suc at) (length rest))) (append_assoc front (x ∷ []) rest) ∙ ap (λ n. filter (λ r. not (is_done (state (front ++ x ∷ rest) r))) (range_with_len n (length rest))) next

-- the rows that `finish` places
waiting : (front rest : List RowState) (at seq : ℕ) → length front ≡ at → placed_rows (finishing_entries at seq rest) ≡ filter (λ r. not (is_done (state (front ++ rest) r))) (range_with_len at (length rest))
unfolding finishing_entries
waiting front [] at seq l = refl
waiting front (row.Free c ∷ rest) at seq l =
    ap (λ l. at ∷ l) (onward front (row.Free c) rest at l (waiting (front ++ row.Free c ∷ []) rest (suc at) (suc seq) (omega (arith, l, length_push front (row.Free c)))))
    ∙ ap (λ x. cond (not (is_done x)) (at ∷ filter (λ r. not (is_done (state (front ++ row.Free c ∷ rest) r))) (range_with_len (at + 1) (length rest))) (filter (λ r. not (is_done (state (front ++ row.Free c ∷ rest) r))) (range_with_len (at + 1) (length rest)))) (sym (get_or_at front (row.Free c) rest (row.Free 0) at l))
waiting front (row.Claimed t c s ∷ rest) at seq l =
    ap (λ l. at ∷ l) (onward front (row.Claimed t c s) rest at l (waiting (front ++ row.Claimed t c s ∷ []) rest (suc at) (suc seq) (omega (arith, l, length_push front (row.Claimed t c s)))))
    ∙ ap (λ x. cond (not (is_done x)) (at ∷ filter (λ r. not (is_done (state (front ++ row.Claimed t c s ∷ rest) r))) (range_with_len (at + 1) (length rest))) (filter (λ r. not (is_done (state (front ++ row.Claimed t c s ∷ rest) r))) (range_with_len (at + 1) (length rest)))) (sym (get_or_at front (row.Claimed t c s) rest (row.Free 0) at l))
waiting front (row.Done n ∷ rest) at seq l =
    onward front (row.Done n) rest at l (waiting (front ++ row.Done n ∷ []) rest (suc at) seq (omega (arith, l, length_push front (row.Done n))))
    ∙ ap (λ x. cond (not (is_done x)) (at ∷ filter (λ r. not (is_done (state (front ++ row.Done n ∷ rest) r))) (range_with_len (at + 1) (length rest))) (filter (λ r. not (is_done (state (front ++ row.Done n ∷ rest) r))) (range_with_len (at + 1) (length rest)))) (sym (get_or_at front (row.Done n) rest (row.Free 0) at l))

pub finish_places : (o : Opening) (b : Book) → length b.rows ≡ length o.txs → (after_entries o b (finish b)).journal ≡ b.journal ++ open_rows o b
unfolding finish
finish_places o b m =
    journal_grows o b (freeing_entries 0 b.rows ++ finishing_entries 0 (next_seq b) b.rows)
    ∙ ap (λ l. b.journal ++ l) (both (freeing_entries 0 b.rows) (finishing_entries 0 (next_seq b) b.rows) ∙ ap (λ l. l ++ placed_rows (finishing_entries 0 (next_seq b) b.rows)) (free_places 0 b.rows) ∙ waiting [] b.rows 0 (next_seq b) refl ∙ ap (λ n. filter (λ r. not (is_done (row_at b r))) (range_with_len 0 n)) m)
  where
    both : (es fs : List LogEntry) → placed_rows (es ++ fs) ≡ placed_rows es ++ placed_rows fs
    both es fs = ap (map (λ (e : LogEntry). e.row)) (filter-append (λ (e : LogEntry). places_row e.what) es fs) ∙ map-append (λ (e : LogEntry). e.row) (filter (λ (e : LogEntry). places_row e.what) es) (filter (λ (e : LogEntry). places_row e.what) fs)

pub every_list_of_events : EveryListOfEvents
every_list_of_events o es events h =
    let b = after o es in
    let w = leads o (initial_core b) events in
    let s : Sound o (core_after o (initial_core b) events).book = subst (Sound o) (sym w.book) (sound_from o b (sound o es h) (entries_added o (initial_core b) events) w.legal) in
    record {
      legal = w.legal;
      leads = w.book;
      numbers = w.numbers;
      journal = finish_places o (core_after o (initial_core b) events).book s.agree.as_many ∙ ap (λ l. l ++ open_rows o (core_after o (initial_core b) events).book) w.journal;
    }
