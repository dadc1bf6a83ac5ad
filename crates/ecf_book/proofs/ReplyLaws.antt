-- The answers of the calls, from what their parts gave.
use Rattle.std.proofs.Common.{◌≡◌, ℕ, suc, zero, ◌+◌, ◌<◌, ◌≤◌, Bool, true, false, cond, not, ◌==◌, List, [], ◌∷◌, ◌++◌, length, Option, Some, None, refl, sym, ap, ◌∙◌, subst, arith}
use Rattle.std.specs.Prelude.{slice_get, nat_lt, find}
use Rattle.std.specs.Arc.{arc_value}
use Rattle.std.specs.List.{list_any, list_all, range_with_len}
use Rattle.std.proofs.lemmas.Bool.{eqb-true, eq-eqb, ltb-true}
use Rattle.std.proofs.lemmas.List.{get_or-set_same, length-map}
use Rattle.ecf_book.specs.Answering.{Gives, WasGiven, WasWanting, takes_memory}
use Rattle.ecf_book.specs.Held.{Held, Holds}
use Rattle.ecf_book.specs.Recorded.{Recorded, recorded, opening_of, state_of, with_entries}
use Rattle.ecf_book.specs.Steps.{MayCome, IsPlacing, IsOfBook, entry, standing}
use Rattle.ecf_book.specs.Works.{IsWorkOf}
use Rattle.ecf_book.proofs.FindLaws.{false_not_true, none_not_some, some_same, found_below, found_first, and_left, not_false}
use Rattle.ecf_book.proofs.HistoryLaws.{nothing_more, state_one}
use Rattle.ecf_book.proofs.StepLaws.{held_below, may_of_first}
use Rattle.ecf_core.specs.declared.book.LogEntry.{LogEntry}
use Rattle.ecf_core.specs.declared.book.LogWhat.{LogWhat}
use Rattle.ecf_core.specs.declared.book.LogWhat.TheVariants as log
use Rattle.ecf_core.specs.declared.book.RowState.{RowState}
use Rattle.ecf_core.specs.declared.book.RowState.TheVariants as row
use Rattle.ecf_core.specs.declared.event.Reply.{Reply}
use Rattle.ecf_core.specs.declared.event.Reply.TheVariants as reply
use Rattle.ecf_core.specs.Book.{Opening, Book, row_at, stales_under, next_seq, claimable_row, may_be_claimed, has_claim_left, is_claimed, is_done, earlier_rows, as_claimed, as_stale, after_entry}
use Rattle.ecf_core.specs.Calls.{Answer, claim, claim_answer, commit, commit_answer, commit_here, release, reply_only, reply_with, stale_answer, if_held, first_changed_read, finishing_entry}
use Rattle.ecf_core.specs.Drafted.{IsRightOn}
use Rattle.ecf_core.specs.Legal.{IsHeld, HasChanged}
use Rattle.ecf_draft.specs.declared.drafts.Work.{Work}
use Rattle.ecf_draft.specs.declared.judging.Decision.{Decision}
use Rattle.ecf_draft.specs.Drafts.{JudgedWork, judgement_in}
use Rattle.ecf_lang.specs.declared.cell.Cell.{Cell}
use Rattle.ecf_lang.specs.declared.limits.TheConstants.{MAX_STALES}
use Rattle.ecf_lang.specs.declared.receipt.Receipt.{Receipt}
use Rattle.ecf_lang.specs.declared.tx.Tx.{Tx}
use Rattle.ecf_lang.specs.declared.typed.Typed.{Typed}
use Rattle.ecf_lang.specs.Draft.{AgreesWith}
use Rattle.ecf_lang.specs.Store.{Store, Cells, IsStore, read, with_writes}
use Rattle.ecf_rows.specs.Laws.{PlacedInOrder}
use Rattle.ecf_rows.specs.Standing.{Standing, standing_of, least_claimable, may_place}
use Rattle.ecf_verdicts.specs.ListLemmas.{Each_weaker, All_from_Each, find_none}

-- nothing was added by a call that only replies
pub only_replied : (b : Recorded) (r : Reply) → WasGiven (reply_only r) r b b
only_replied b r = record { reply = refl; added = nothing_more b }

-- the answer is the one that is due
pub due : (x y : Answer) (said : Option Reply) (before later : Recorded) → y ≡ x → Gives x said before later → Gives y said before later
due x y said before later e g = subst (λ (z : Answer). Gives z said before later) (sym e) g

pub due_given : (x y : Answer) (said : Reply) (before later : Recorded) → y ≡ x → WasGiven x said before later → WasGiven y said before later
due_given x y said before later e g = subst (λ (z : Answer). WasGiven z said before later) (sym e) g

-- a claim, by the row that may be claimed
pub claim_by : (o : Opening) (s : Book) (x : Option ℕ) → claimable_row o s ≡ x → claim o s ≡ claim_answer s x
unfolding claim
claim_by o s x e = ap (claim_answer s) e

least_is : (o : Opening) (s : Book) → least_claimable (standing_of o s) ≡ claimable_row o s
least_is o s = ap (λ (n : ℕ). find (may_be_claimed o s) (range_with_len 0 n)) (length-map o.txs (λ (tx : Tx). tx.submitter))

-- the row that is found among what is held
pub least_held : (b : Recorded) (h : Held) (x : Option ℕ) → Holds b h → x ≡ least_claimable h.rows → claimable_row (opening_of b.setup) (state_of b) ≡ x
least_held b h x holds e = sym (e ∙ ap (λ (t : Standing). least_claimable t) holds.matches.rows ∙ least_is (opening_of b.setup) (state_of b))

-- whether a row is Claimed, among what is held
pub claimed_held : (b : Recorded) (h : Held) (x y : Bool) → Holds b h → y ≡ list_any is_claimed h.rows.states → y ≡ x → claim_answer (state_of b) None ≡ reply_only (cond x reply.Later reply.Over)
claimed_held b h x y holds e f = ap (λ (c : Bool). reply_only (cond c reply.Later reply.Over)) (sym (ap (λ (t : Standing). list_any is_claimed t.states) holds.matches.rows) ∙ sym e ∙ f)

-- a Free row that is claimed is held under the ticket
claimed_free : (x : RowState) (t : ℕ) → has_claim_left x ≡ true → stales_under t (as_claimed t x) ≡ Some 0
claimed_free (row.Free claims) t e = ap (λ c. cond c (Some 0) None) (eq-eqb t t refl)
claimed_free (row.Claimed ticket claims stales) t e = false_not_true refl e
claimed_free (row.Done seq) t e = false_not_true refl e

pub claimed_is_held : (b : Recorded) (r t : ℕ) → claimable_row (opening_of b.setup) (state_of b) ≡ Some r → length (state_of b).rows ≡ length b.setup.txs
    → IsHeld (state_of (with_entries b (entry r t log.Claimed ∷ []))) r t 0
claimed_is_held b r t e l =
    let s : Book = state_of b in
    let below : r < length s.rows = (let k = found_below _ (length b.setup.txs) r e in omega (arith, k, l)) in
    let may = may_of_first (opening_of b.setup) s r e in
    ap (λ (z : Book). stales_under t (row_at z r)) (state_one b (entry r t log.Claimed))
    ∙ ap (stales_under t) (get_or-set_same s.rows r (as_claimed t (row_at s r)) (row.Free 0) below)
    ∙ claimed_free (row_at s r) t (and_left (has_claim_left (row_at s r)) (list_all (λ q. is_done (row_at s q)) (earlier_rows b.setup.txs r)) may)

-- a row is held under equal names
pub held_at : (s : Book) (r r' t t' n : ℕ) → r' ≡ r → t' ≡ t → IsHeld s r t n → IsHeld s r' t' n
held_at s r r' t t' n er et held = ap (λ (k : ℕ). stales_under t' (row_at s k)) er ∙ ap (λ (k : ℕ). stales_under k (row_at s r)) et ∙ held

-- a row that a stale commit found held stays so
stale_held : (x : RowState) (t n : ℕ) → stales_under t x ≡ Some n → stales_under t (as_stale x) ≡ Some (suc n)
stale_held (row.Free claims) t n e = none_not_some e
stale_held (row.Claimed given claims stales) t n e = go (given == t) e
  where
    go : (c : Bool) → cond c (Some stales) None ≡ Some n → cond c (Some (suc stales)) None ≡ Some (suc n)
    go true f = ap (λ k. Some (suc k)) (some_same stales n f)
    go false f = none_not_some f
stale_held (row.Done seq) t n e = none_not_some e

pub stale_is_held : (b : Recorded) (r t n : ℕ) (cell : Cell) (was now : ℕ) → IsHeld (state_of b) r t n
    → IsHeld (state_of (with_entries b (entry r t (log.Stale cell was now) ∷ []))) r t (suc n)
stale_is_held b r t n cell was now e =
    let s : Book = state_of b in
    ap (λ (z : Book). stales_under t (row_at z r)) (state_one b (entry r t (log.Stale cell was now)))
    ∙ ap (stales_under t) (get_or-set_same s.rows r (as_stale (row_at s r)) (row.Free 0) (held_below s.rows r t n e))
    ∙ stale_held (row_at s r) t n e

-- a release, by the stale commits under the ticket
pub release_gone : (s : Book) (r t : ℕ) → stales_under t (row_at s r) ≡ None → release s r t ≡ reply_only (reply.Gone (row_at s r))
unfolding release
release_gone s r t e = ap (λ x. if_held s r x (λ _. reply_with reply.Freed r t log.Freed)) e

pub release_freed : (s : Book) (r t n : ℕ) → stales_under t (row_at s r) ≡ Some n → release s r t ≡ reply_with reply.Freed r t log.Freed
unfolding release
release_freed s r t n e = ap (λ x. if_held s r x (λ _. reply_with reply.Freed r t log.Freed)) e

-- a commit, by the stale commits under the ticket
pub commit_gone : (s : Book) (r t : ℕ) (reads : Cells) → stales_under t (row_at s r) ≡ None → commit s r t reads ≡ reply_only (reply.Gone (row_at s r))
unfolding commit
commit_gone s r t reads e = ap (λ x. if_held s r x (λ stales. commit_answer s r t stales (first_changed_read reads s.ledger.store))) e

pub commit_held : (s : Book) (r t n : ℕ) (reads : Cells) → stales_under t (row_at s r) ≡ Some n → commit s r t reads ≡ commit_answer s r t n (first_changed_read reads s.ledger.store)
unfolding commit
commit_held s r t n reads e = ap (λ x. if_held s r x (λ stales. commit_answer s r t stales (first_changed_read reads s.ledger.store))) e

-- a run on the present store, by the same
pub here_gone : (s : Book) (r t : ℕ) → stales_under t (row_at s r) ≡ None → commit_here s r t ≡ reply_only (reply.Gone (row_at s r))
unfolding commit_here
here_gone s r t e = ap (λ x. if_held s r x (λ _. reply_with (reply.Placed (next_seq s)) r t (log.Here (next_seq s)))) e

pub here_held : (s : Book) (r t n : ℕ) → stales_under t (row_at s r) ≡ Some n → commit_here s r t ≡ reply_with (reply.Placed (next_seq s)) r t (log.Here (next_seq s))
unfolding commit_here
here_held s r t n e = ap (λ x. if_held s r x (λ _. reply_with (reply.Placed (next_seq s)) r t (log.Here (next_seq s)))) e

-- a commit of which a read has changed
pub changed_answer : (s : Book) (r t n : ℕ) (cell : Cell) (was now : ℕ) (x : Option (Cell × ℕ)) → Some (cell, was) ≡ x → read s.ledger.store cell ≡ now
    → commit_answer s r t n x ≡ stale_answer r t n cell was now
changed_answer s r t n cell was now x e f = ap (commit_answer s r t n) (sym e) ∙ ap (stale_answer r t n cell was) f

pub same_answer : (s : Book) (r t n : ℕ) (x : Option (Cell × ℕ)) → None ≡ x → commit_answer s r t n x ≡ reply_with (reply.Placed (next_seq s)) r t (log.Placed (next_seq s))
same_answer s r t n x e = ap (commit_answer s r t n) (sym e)

-- a stale commit, by how many there were
pub stale_first : (r t n : ℕ) (cell : Cell) (was now : ℕ) → n + 1 < MAX_STALES → stale_answer r t n cell was now ≡ reply_with (reply.Stale cell was now) r t (log.Stale cell was now)
unfolding stale_answer
stale_first r t zero cell was now l = refl
stale_first r t (suc zero) cell was now l = refl
stale_first r t (suc (suc n)) cell was now l = absurd (omega (arith, l))

pub stale_last : (r t : ℕ) (cell : Cell) (was now : ℕ) → stale_answer r t 2 cell was now ≡ reply_with (reply.LastStale cell was now) r t (log.LastStale cell was now)
unfolding stale_answer
stale_last r t cell was now = refl

pub stale_past : (r t n : ℕ) (cell : Cell) (was now : ℕ) → 2 < n → stale_answer r t n cell was now ≡ reply_only (reply.LastStale cell was now)
unfolding stale_answer
stale_past r t n cell was now l = go (nat_lt (suc n) MAX_STALES) refl (suc n == MAX_STALES) refl
  where
    go : (a : Bool) → nat_lt (suc n) MAX_STALES ≡ a → (c : Bool) → (suc n == MAX_STALES) ≡ c
        → cond a (reply_with (reply.Stale cell was now) r t (log.Stale cell was now)) (cond c (reply_with (reply.LastStale cell was now) r t (log.LastStale cell was now)) (reply_only (reply.LastStale cell was now))) ≡ reply_only (reply.LastStale cell was now)
    go true e c f = absurd (let k = ltb-true (suc n) MAX_STALES e in omega (arith, k, l))
    go false e true f = absurd (let k = eqb-true (suc n) MAX_STALES f in omega (arith, k, l))
    go false e false f = refl

-- where no read has changed, the store agrees with the reads
unchanged : (a b : ℕ) → not (a == b) ≡ false → a ≡ b
unchanged a b e = go (a == b) refl e
  where
    go : (c : Bool) → (a == b) ≡ c → not c ≡ false → a ≡ b
    go true f g = eqb-true a b f
    go false f g = false_not_true refl (sym g)

pub agrees : (reads : Cells) (store : Store) → first_changed_read reads store ≡ None → AgreesWith reads store
agrees reads store e = All_from_Each _ reads (Each_weaker _ (λ (p : Cell × ℕ). read store p.0 ≡ p.1) reads (λ p f. unchanged (read store p.0) p.1 f) (find_none _ reads e))

-- what was judged places its row, where no read has changed
pub judged_placing : (b : Recorded) (j : JudgedWork) (next : Store) → IsOfBook b j → IsStore (state_of b).ledger.store → first_changed_read j.reads (state_of b).ledger.store ≡ None
    → next ≡ with_writes (state_of b).ledger.store j.writes → IsPlacing b j.row j.receipt next
judged_placing b j next of_book is_store same e =
    let right = of_book.under_contract.right (state_of b).ledger.store is_store (agrees j.reads (state_of b).ledger.store same) in
    record { tx = arc_value j.tx; at = of_book.tx; right = sym right.receipt; leaves = e ∙ sym right.leaves }

-- a call that found its row not held under the ticket replies so and adds nothing
pub gave_gone : (answer : Answer) (b : Recorded) (said : RowState) (r : ℕ) → answer ≡ reply_only (reply.Gone (row_at (state_of b) r)) → said ≡ row_at (state_of b) r → WasGiven answer (reply.Gone said) b b
gave_gone answer b said r e f = record { reply = ap (λ x. reply.Gone x) f ∙ sym (ap (λ (a : Answer). a.reply) e); added = nothing_more b ∙ sym (ap (λ (a : Answer). with_entries b a.entries) e) }

-- a call that added its one entry replies so
pub gave_one : (answer : Answer) (b later : Recorded) (said : Reply) (r t : ℕ) (what : LogWhat) → answer ≡ reply_with said r t what → later ≡ with_entries b (entry r t what ∷ []) → WasGiven answer said b later
gave_one answer b later said r t what e f = record { reply = sym (ap (λ (a : Answer). a.reply) e); added = f ∙ sym (ap (λ (a : Answer). with_entries b a.entries) e) }

-- the row that is claimed is known
pub first_known : (b : Recorded) (r : ℕ) → claimable_row (opening_of b.setup) (state_of b) ≡ Some r → r < length b.setup.txs
first_known b r e = found_below (may_be_claimed (opening_of b.setup) (state_of b)) (length b.setup.txs) r e

pub claimed_in : (typed : Typed) (txs : List Tx) (es later : List LogEntry) (h : Held) (r t : ℕ) → later ≡ es ++ entry r t log.Claimed ∷ []
    → Holds (recorded typed txs es) h → claimable_row (opening_of (recorded typed txs es).setup) (state_of (recorded typed txs es)) ≡ Some r
    → IsHeld (state_of (recorded typed txs later)) r t 0
claimed_in typed txs es later h r t is holds e =
    subst (λ (l : List LogEntry). IsHeld (state_of (recorded typed txs l)) r t 0) (sym is) (claimed_is_held (recorded typed txs es) r t e holds.matches.as_many)

-- the work that a claim gives
pub work_of_claim : (b later : Recorded) (w : Work) → later ≡ with_entries b (entry w.row (suc (state_of b).tickets) log.Claimed ∷ [])
    → slice_get b.setup.txs w.row ≡ Some (arc_value w.tx) → IsHeld (state_of later) w.row w.ticket w.tries → w.snapshot ≡ (state_of b).ledger.store → w.ticket ≡ suc (state_of b).tickets
    → IsWorkOf later w × (w.ticket ≡ (state_of later).tickets)
work_of_claim b later w added tx held snapshot ticket =
    let e : LogEntry = entry w.row (suc (state_of b).tickets) log.Claimed in
    let now : state_of later ≡ after_entry (opening_of b.setup) (state_of b) e = ap (λ (z : Recorded). state_of z) added ∙ state_one b e in (
      record {
        tx = subst (λ (z : Recorded). slice_get z.setup.txs w.row ≡ Some (arc_value w.tx)) (sym added) tx;
        held = held;
        snapshot = snapshot ∙ sym (ap (λ (s : Book). s.ledger.store) now);
      },
      ticket ∙ sym (ap (λ (s : Book). s.tickets) now),
    )

-- a row that may be placed among what is held may be in the book
pub turn_held : (b : Recorded) (h : Held) (r : ℕ) → Holds b h → may_place h.rows r ≡ true → may_place (standing b) r ≡ true
turn_held b h r holds e = subst (λ (t : Standing). may_place t r ≡ true) holds.matches.rows e

-- what a stale commit gives back as work
pub given_again : (b later : Recorded) (j : JudgedWork) (w : Work) (n : ℕ) (cell : Cell) (was now : ℕ) → IsOfBook b j → IsHeld (state_of b) j.row j.ticket n
    → w.row ≡ j.row → w.ticket ≡ j.ticket → w.tries ≡ n + 1 → w.tx ≡ j.tx → w.snapshot ≡ (state_of b).ledger.store → later ≡ with_entries b (entry w.row w.ticket (log.Stale cell was now) ∷ [])
    → IsWorkOf later w × (w.row ≡ j.row) × (w.ticket ≡ j.ticket)
given_again b later j w n cell was now of_book held row ticket tries tx snapshot added =
    let e : LogEntry = entry w.row w.ticket (log.Stale cell was now) in
    let here : IsHeld (state_of b) w.row w.ticket n = held_at (state_of b) j.row w.row j.ticket w.ticket n row ticket held in
    let more : suc n ≡ w.tries = omega (arith, tries) in
    let is : state_of later ≡ after_entry (opening_of b.setup) (state_of b) e = ap (λ (z : Recorded). state_of z) added ∙ state_one b e in (
      record {
        tx = subst (λ (z : Recorded). slice_get z.setup.txs w.row ≡ Some (arc_value w.tx)) (sym added)
            (ap (slice_get b.setup.txs) row ∙ of_book.tx ∙ ap (λ x. Some (arc_value x)) (sym tx));
        held = subst (λ (z : Recorded). IsHeld (state_of z) w.row w.ticket w.tries) (sym added)
            (stale_is_held b w.row w.ticket n cell was now here ∙ ap (λ k. Some k) more);
        snapshot = snapshot ∙ sym (ap (λ (s : Book). s.ledger.store) is);
      },
      row,
      ticket,
    )

-- a stale commit that isn't the last may come
pub stale_may : (b : Recorded) (r t r' t' n : ℕ) (cell : Cell) (was now : ℕ) → r' ≡ r → t' ≡ t → IsHeld (state_of b) r t n → n + 1 < MAX_STALES → HasChanged (state_of b) cell was now
    → MayCome b (entry r' t' (log.Stale cell was now))
stale_may b r t r' t' n cell was now er et held l changed = ((n, held_at (state_of b) r r' t t' n er et held, omega (arith, l)), changed)

pub last_may : (b : Recorded) (r t n : ℕ) (cell : Cell) (was now : ℕ) → IsHeld (state_of b) r t n → n ≡ 2 → HasChanged (state_of b) cell was now → MayCome b (entry r t (log.LastStale cell was now))
last_may b r t n cell was now held e changed = ((n, held, omega (arith, e)), changed)

-- what the last stale commit adds, and one past it
pub last_added : (b later : Recorded) (r t n : ℕ) (cell : Cell) (was now : ℕ) → n ≡ 2 → later ≡ with_entries b (entry r t (log.LastStale cell was now) ∷ []) → later ≡ with_entries b (stale_answer r t n cell was now).entries
last_added b later r t n cell was now e added =
    added ∙ sym (ap (λ (k : ℕ). with_entries b (stale_answer r t k cell was now).entries) e ∙ ap (λ (a : Answer). with_entries b a.entries) (stale_last r t cell was now))

pub none_added : (b : Recorded) (r t n : ℕ) (cell : Cell) (was now : ℕ) → 2 < n → b ≡ with_entries b (stale_answer r t n cell was now).entries
none_added b r t n cell was now l = nothing_more b ∙ sym (ap (λ (a : Answer). with_entries b a.entries) (stale_past r t n cell was now l))

-- the last stale commit, and each past it, is replied to so
pub last_said : (r t n : ℕ) (cell : Cell) (was now : ℕ) → MAX_STALES ≤ n + 1 → reply.LastStale cell was now ≡ (stale_answer r t n cell was now).reply
unfolding stale_answer
last_said r t n cell was now l = go (nat_lt (suc n) MAX_STALES) refl (suc n == MAX_STALES)
  where
    go : (a : Bool) → nat_lt (suc n) MAX_STALES ≡ a → (c : Bool)
        → reply.LastStale cell was now ≡ (cond a (reply_with (reply.Stale cell was now) r t (log.Stale cell was now)) (cond c (reply_with (reply.LastStale cell was now) r t (log.LastStale cell was now)) (reply_only (reply.LastStale cell was now)))).reply
    go true e c = absurd (let k = ltb-true (suc n) MAX_STALES e in omega (arith, k, l))
    go false e true = refl
    go false e false = refl

-- an answer's entries stand under the row and ticket that the book was told
pub entries_at : (b later : Recorded) (r t r' t' n : ℕ) (cell : Cell) (was now : ℕ) → r' ≡ r → t' ≡ t → later ≡ with_entries b (stale_answer r' t' n cell was now).entries → later ≡ with_entries b (stale_answer r t n cell was now).entries
entries_at b later r t r' t' n cell was now er et added = added ∙ ap (λ (k : ℕ). with_entries b (stale_answer k t' n cell was now).entries) er ∙ ap (λ (k : ℕ). with_entries b (stale_answer r k n cell was now).entries) et

pub stale_gave : (b later : Recorded) (r t r' t' n : ℕ) (cell : Cell) (was now : ℕ) → r' ≡ r → t' ≡ t → n + 1 < MAX_STALES → later ≡ with_entries b (entry r' t' (log.Stale cell was now) ∷ [])
    → WasGiven (stale_answer r t n cell was now) (reply.Stale cell was now) b later
stale_gave b later r t r' t' n cell was now er et l added =
    gave_one (stale_answer r t n cell was now) b later (reply.Stale cell was now) r t (log.Stale cell was now) (stale_first r t n cell was now l)
    (added ∙ ap (λ (k : ℕ). with_entries b (entry k t' (log.Stale cell was now) ∷ [])) er ∙ ap (λ (k : ℕ). with_entries b (entry r k (log.Stale cell was now) ∷ [])) et)

pub stale_wants : (b : Recorded) (r t n : ℕ) (cell : Cell) (was now : ℕ) → n + 1 < MAX_STALES → WasWanting (stale_answer r t n cell was now) b b
stale_wants b r t n cell was now l = record { same = refl; cause = ap (λ (a : Answer). takes_memory a.reply) (stale_first r t n cell was now l) }

-- what was judged places its row, under what the book was told of it
pub placing_at : (b : Recorded) (r r' : ℕ) (receipt receipt' : Receipt) (next : Store) → r' ≡ r → receipt' ≡ receipt → IsPlacing b r receipt next → IsPlacing b r' receipt' next
placing_at b r r' receipt receipt' next er ee p = record { tx = p.tx; at = ap (slice_get b.setup.txs) er ∙ p.at; right = ee ∙ p.right; leaves = p.leaves }

-- the first row that isn't Done may be placed
pub first_open_turn : PlacedInOrder → (b : Recorded) (r : ℕ) → MayCome b (finishing_entry r (next_seq (state_of b))) → is_done (row_at (state_of b) r) ≡ false → may_place (standing b) r ≡ true
first_open_turn placed b r may open_ =
    placed (standing b) r (λ q l. not_false _ (found_first (λ (k : ℕ). not (is_done (row_at (state_of b) k))) 0 (length b.setup.txs) r may.1 q (omega arith) l)) open_

-- what was run on the present store places its row
pub ran_placing : (b : Recorded) (h : Held) (r : ℕ) (typed : Typed) (tx : Tx) (d : Decision) (store next : Store) (writes : Cells) → Holds b h → slice_get b.setup.txs r ≡ Some tx → typed ≡ b.setup.typed
    → store ≡ h.store → IsRightOn typed (judgement_in tx d) store → writes ≡ d.writes → next ≡ with_writes store writes → IsPlacing b r d.receipt next
ran_placing b h r typed tx d store next writes holds at is_typed is_store right wrote leaves =
    let now : store ≡ (state_of b).ledger.store = is_store ∙ holds.matches.store in
    let here = subst (λ (s : Store). IsRightOn b.setup.typed (judgement_in tx d) s) now (subst (λ (t : Typed). IsRightOn t (judgement_in tx d) store) is_typed right) in
    record {
      tx = tx;
      at = at;
      right = sym here.receipt;
      leaves = leaves ∙ ap (λ (s : Store). with_writes s writes) now ∙ ap (with_writes (state_of b).ledger.store) wrote ∙ sym here.leaves;
    }

-- the stale commits under equal names
pub stales_at : (s : Book) (r r' t t' : ℕ) → r' ≡ r → t' ≡ t → stales_under t' (row_at s r') ≡ stales_under t (row_at s r)
stales_at s r r' t t' er et = ap (λ (k : ℕ). stales_under t' (row_at s k)) er ∙ ap (λ (k : ℕ). stales_under k (row_at s r)) et
