-- Each call adds legal entries.
use Rattle.std.proofs.Common.{◌≡◌, ℕ, suc, zero, ◌+◌, ◌<◌, ◌≤◌, ◌≢◌, Bool, true, false, cond, not, ◌==◌, List, [], ◌∷◌, ◌++◌, length, map, Option, Some, None, inl, inr, refl, sym, ap, ◌∙◌, subst, arith}
use Rattle.std.specs.Prelude.{slice_get, slice_set, find, nat_lt}
use Rattle.std.specs.List.{range_with_len}
use Rattle.std.proofs.lemmas.Bool.{cases_eq, eq-eqb, eqb-true, ltb-true}
use Rattle.std.proofs.lemmas.List.{get_or_at, set_at, length_push, append_assoc, append-nil, length-set, length-append, length-map}
use Rattle.ecf_lang.specs.declared.cell.Cell.{Cell}
use Rattle.ecf_lang.specs.declared.limits.TheConstants.{MAX_STALES}
use Rattle.ecf_lang.specs.Store.{Cells, read}
use Rattle.ecf_verdicts.specs.Journals.{IsLegal}
use Rattle.ecf_verdicts.specs.SerialLaws.{LegalWhenWhole}
use Rattle.ecf_verdicts.specs.ListLemmas.{Each, Each_weaker}
use Rattle.ecf_core.specs.declared.book.RowState.{RowState}
use Rattle.ecf_core.specs.declared.book.RowState.TheVariants as row
use Rattle.ecf_core.specs.declared.book.LogEntry.{LogEntry}
use Rattle.ecf_core.specs.declared.book.LogWhat.TheVariants as log
use Rattle.ecf_core.specs.declared.event.Reply.TheVariants as reply
use Rattle.ecf_core.specs.Watches.{Watch}
use Rattle.ecf_core.specs.Book.{Opening, Book, row_at, is_claimed, is_done, stales_under, next_seq, claimable_row, first_open_row, as_freed, with_placed, with_row, after_entry, after_entries}
use Rattle.ecf_core.specs.Legal.{IsLegalChange, AreLegal, NoneClaimed}
use Rattle.ecf_core.specs.Calls.{Answer, claim_answer, claim, first_changed_read, reply_only, reply_with, stale_answer, commit_answer, if_held, commit, commit_here, release, freeing_entries, reclaim, finishing_entries, finish, off_entries, take_watch}
use Rattle.ecf_core.proofs.ListLaws.{false_not_true, found_in, Each_more, Each_both}
use Rattle.ecf_core.proofs.RowLaws.{state, count_all, so_far}
use Rattle.ecf_core.proofs.ReachLaws.{Sound, sound_from}

offered_legal : (o : Opening) (b : Book) (x : Option ℕ) → claimable_row o b ≡ x → AreLegal o b (claim_answer b x).entries
offered_legal o b None e = tt
offered_legal o b (Some r) e = ((e, refl), tt)

pub claim_legal : (o : Opening) (b : Book) → AreLegal o b (claim o b).entries
unfolding claim
claim_legal o b = offered_legal o b (claimable_row o b) refl

differs : (a b : ℕ) → not (a == b) ≡ true → b ≢ a
differs a b e f = false_not_true (ap not (eq-eqb a b (sym f))) e

stale_legal : (o : Opening) (b : Book) (r ticket n : ℕ) (cell : Cell) (was : ℕ) → stales_under ticket (row_at b r) ≡ Some n → was ≢ read b.ledger.store cell → AreLegal o b (stale_answer r ticket n cell was (read b.ledger.store cell)).entries
unfolding stale_answer
stale_legal o b r ticket n cell was held d = go (nat_lt (suc n) MAX_STALES) refl (suc n == MAX_STALES) refl
  where
    go : (a : Bool) → nat_lt (suc n) MAX_STALES ≡ a → (c : Bool) → (suc n == MAX_STALES) ≡ c → AreLegal o b (cond a (reply_with (reply.Stale cell was (read b.ledger.store cell)) r ticket (log.Stale cell was (read b.ledger.store cell))) (cond c (reply_with (reply.LastStale cell was (read b.ledger.store cell)) r ticket (log.LastStale cell was (read b.ledger.store cell))) (reply_only (reply.LastStale cell was (read b.ledger.store cell))))).entries
    go true e c f = (((n, held, ltb-true (suc n) MAX_STALES e), (refl, d)), tt)
    go false e true f = (((n, held, eqb-true (suc n) MAX_STALES f), (refl, d)), tt)
    go false e false f = tt

validated_legal : (o : Opening) (b : Book) (r ticket n : ℕ) (reads : Cells) (x : Option (Cell × ℕ)) → stales_under ticket (row_at b r) ≡ Some n → first_changed_read reads b.ledger.store ≡ x → AreLegal o b (commit_answer b r ticket n x).entries
validated_legal o b r ticket n reads None held e = (((n, held), refl), tt)
validated_legal o b r ticket n reads (Some pair) held e =
    stale_legal o b r ticket n pair.0 pair.1 held (differs (read b.ledger.store pair.0) pair.1 (found_in (λ p. not (read b.ledger.store p.0 == p.1)) reads pair e).1)

held_legal : (o : Opening) (b : Book) (r : ℕ) (x : Option ℕ) (next : ℕ → Answer) → ((n : ℕ) → x ≡ Some n → AreLegal o b (next n).entries) → AreLegal o b (if_held b r x next).entries
held_legal o b r None next h = tt
held_legal o b r (Some n) next h = h n refl

pub commit_legal : (o : Opening) (b : Book) (r ticket : ℕ) (reads : Cells) → AreLegal o b (commit b r ticket reads).entries
unfolding commit
commit_legal o b r ticket reads = held_legal o b r (stales_under ticket (row_at b r)) (λ n. commit_answer b r ticket n (first_changed_read reads b.ledger.store)) (λ n held. validated_legal o b r ticket n reads (first_changed_read reads b.ledger.store) held refl)

pub here_legal : (o : Opening) (b : Book) (r ticket : ℕ) → AreLegal o b (commit_here b r ticket).entries
unfolding commit_here
here_legal o b r ticket = held_legal o b r (stales_under ticket (row_at b r)) _ (λ n held. (((n, held), refl), tt))

pub release_legal : (o : Opening) (b : Book) (r ticket : ℕ) → AreLegal o b (release b r ticket).entries
unfolding release
release_legal o b r ticket = held_legal o b r (stales_under ticket (row_at b r)) _ (λ n held. ((n, held), tt))

off_legal : (o : Opening) (b : Book) (k : ℕ) (x : Option (Option Watch)) → NoneClaimed b → slice_get b.ledger.watches k ≡ x → AreLegal o b (off_entries k x)
off_legal o b k None h e = tt
off_legal o b k (Some None) h e = tt
off_legal o b k (Some (Some w)) h e = ((h, (w, e), refl, refl), tt)

pub take_legal : (o : Opening) (b : Book) (k : ℕ) → NoneClaimed b → AreLegal o b (take_watch b k)
unfolding take_watch
take_legal o b k h = off_legal o b k (slice_get b.ledger.watches k) h refl

-- entries after entries
pub after_more : (o : Opening) (b : Book) (es fs : List LogEntry) → after_entries o b (es ++ fs) ≡ after_entries o (after_entries o b es) fs
unfolding after_entries
after_more o b [] fs = refl
after_more o b (e ∷ es) fs = after_more o (after_entry o b e) es fs

pub legal_more : (o : Opening) (b : Book) (es fs : List LogEntry) → AreLegal o b es → AreLegal o (after_entries o b es) fs → AreLegal o b (es ++ fs)
unfolding after_entries
legal_more o b [] fs h k = k
legal_more o b (e ∷ es) fs h k = (h.0, legal_more o (after_entry o b e) es fs h.1 k)

-- the rows given back, one after the other
pub record Freeing (o : Opening) (b : Book) (front rest : List RowState) (at : ℕ) : Type 0 where
  pub legal : AreLegal o b (freeing_entries at rest)
  pub left : after_entries o b (freeing_entries at rest) ≡ record b { rows = front ++ map as_freed rest }

given_back : (x : RowState) (t c s : ℕ) → x ≡ row.Claimed t c s → stales_under t x ≡ Some s
given_back x t c s e = ap (stales_under t) e ∙ ap (λ b. cond b (Some s) None) (eq-eqb t t refl)

pub freeing : (o : Opening) (b : Book) (front rest : List RowState) (at : ℕ) → b.rows ≡ front ++ rest → length front ≡ at → Freeing o b front rest at
unfolding freeing_entries after_entries
freeing o b front [] at e l = record { legal = tt; left = ap (λ rows. record b { rows = rows }) e }
freeing o b front (row.Free c ∷ rest) at e l =
    let f = freeing o b (front ++ row.Free c ∷ []) rest (suc at) (e ∙ sym (append_assoc front (row.Free c ∷ []) rest)) (omega (arith, l, length_push front (row.Free c))) in
    record { legal = f.legal; left = f.left ∙ ap (λ rows. record b { rows = rows }) (append_assoc front (row.Free c ∷ []) (map as_freed rest)) }
freeing o b front (row.Claimed t c s ∷ rest) at e l =
    let is : row_at b at ≡ row.Claimed t c s = ap (λ rows. state rows at) e ∙ get_or_at front (row.Claimed t c s) rest (row.Free 0) at l in
    let now : slice_set b.rows at (as_freed (row_at b at)) ≡ front ++ row.Free c ∷ rest = ap (λ rows. slice_set rows at (as_freed (row_at b at))) e ∙ set_at front (row.Claimed t c s) rest (as_freed (row_at b at)) at l ∙ ap (λ x. front ++ as_freed x ∷ rest) is in
    let f = freeing o (with_row b at (as_freed (row_at b at))) (front ++ row.Free c ∷ []) rest (suc at) (now ∙ sym (append_assoc front (row.Free c ∷ []) rest)) (omega (arith, l, length_push front (row.Free c))) in
    record { legal = ((s, given_back (row_at b at) t c s is), f.legal); left = f.left ∙ ap (λ rows. record b { rows = rows }) (append_assoc front (row.Free c ∷ []) (map as_freed rest)) }
freeing o b front (row.Done n ∷ rest) at e l =
    let f = freeing o b (front ++ row.Done n ∷ []) rest (suc at) (e ∙ sym (append_assoc front (row.Done n ∷ []) rest)) (omega (arith, l, length_push front (row.Done n))) in
    record { legal = f.legal; left = f.left ∙ ap (λ rows. record b { rows = rows }) (append_assoc front (row.Done n ∷ []) (map as_freed rest)) }

pub reclaim_legal : (o : Opening) (b : Book) → AreLegal o b (reclaim b).entries
unfolding reclaim
reclaim_legal o b = (freeing o b [] b.rows 0 refl refl).legal

-- the rows placed that are open, one after the other
pub record Ending (o : Opening) (b : Book) (rest : List RowState) (at seq : ℕ) : Type 0 where
  pub legal : AreLegal o b (finishing_entries at seq rest)
  pub done : Each (λ x. is_done x ≡ true) (after_entries o b (finishing_entries at seq rest)).rows

pub found_if : (p : ℕ → Bool) (a n x : ℕ) → a ≤ x → x < a + n → p x ≡ true → ((y : ℕ) → a ≤ y → y < x → p y ≡ false) → find p (range_with_len a n) ≡ Some x
found_if p a zero x l m t f = absurd (omega arith)
found_if p a (suc n) x l m t f = elim (cases_eq a x) [
  | inl e ↦ ap (λ b. cond b (Some a) (find p (range_with_len (a + 1) n))) (ap p e ∙ t) ∙ ap Some e
  | inr e ↦ ap (λ b. cond b (Some a) (find p (range_with_len (a + 1) n))) (f a (omega arith) (omega arith)) ∙ found_if p (a + 1) n x (omega arith) (omega arith) t (λ y k j. f y (omega arith) j)
]

each_get : (P : RowState → Type 0) (front rest : List RowState) → Each P front → (q : ℕ) → q < length front → P (state (front ++ rest) q)
each_get P [] rest h q l = absurd (omega arith)
each_get P (x ∷ front) rest h zero l = h.0
each_get P (x ∷ front) rest h (suc q) l = each_get P front rest h.1 q (omega arith)

none_in : (rows : List RowState) → Each (λ x. is_claimed x ≡ false) rows → (r : ℕ) → is_claimed (state rows r) ≡ false
none_in [] h r = refl
none_in (x ∷ rows) h zero = h.0
none_in (x ∷ rows) h (suc r) = none_in rows h.1 r

done_unclaimed : (x : RowState) → is_done x ≡ true → is_claimed x ≡ false
done_unclaimed (row.Free c) e = refl
done_unclaimed (row.Claimed t c s) e = false_not_true refl e
done_unclaimed (row.Done n) e = refl

freed_all : (rows : List RowState) → Each (λ x. is_claimed x ≡ false) (map as_freed rows)
freed_all [] = tt
freed_all (row.Free c ∷ rows) = (refl, freed_all rows)
freed_all (row.Claimed t c s ∷ rows) = (refl, freed_all rows)
freed_all (row.Done n ∷ rows) = (refl, freed_all rows)

record Step (o : Opening) (b : Book) (front rest : List RowState) (at seq : ℕ) : Type 0 where
  legal : IsLegalChange o b at 0 (log.Finished seq)
  rows : slice_set b.rows at (row.Done (next_seq b)) ≡ (front ++ row.Done (next_seq b) ∷ []) ++ map as_freed rest
  as_many : length (slice_set b.rows at (row.Done (next_seq b))) ≡ length o.txs
  dones : Each (λ x. is_done x ≡ true) (front ++ row.Done (next_seq b) ∷ [])
  next : suc seq ≡ suc (length (b.journal ++ at ∷ []))

ending_step : (o : Opening) (b : Book) (front : List RowState) (x : RowState) (rest : List RowState) (at seq : ℕ) → b.rows ≡ front ++ x ∷ map as_freed rest → length front ≡ at → length b.rows ≡ length o.txs → Each (λ x. is_done x ≡ true) front → seq ≡ next_seq b → is_done x ≡ false → is_claimed x ≡ false → Step o b front rest at seq
ending_step o b front x rest at seq e l m d q open_ unclaimed = record {
  legal = (none, first, refl, q);
  rows = ap (λ rows. slice_set rows at (row.Done (next_seq b))) e ∙ set_at front x (map as_freed rest) (row.Done (next_seq b)) at l ∙ sym (append_assoc front (row.Done (next_seq b) ∷ []) (map as_freed rest));
  as_many = length-set b.rows at (row.Done (next_seq b)) ∙ m;
  dones = Each_more _ front (row.Done (next_seq b)) d refl;
  next = omega (arith, q, length_push b.journal at);
}
  where
    none : (r : ℕ) → is_claimed (row_at b r) ≡ false
    none r = ap (λ rows. is_claimed (state rows r)) e ∙ none_in (front ++ x ∷ map as_freed rest) (Each_both _ front (x ∷ map as_freed rest) (Each_weaker _ _ front done_unclaimed d) (unclaimed, freed_all rest)) r

    here : row_at b at ≡ x
    here = ap (λ rows. state rows at) e ∙ get_or_at front x (map as_freed rest) (row.Free 0) at l

    long : length b.rows ≡ length front + suc (length (map as_freed rest))
    long = ap (λ rows. length rows) e ∙ length-append front (x ∷ map as_freed rest)

    before : (y : ℕ) → 0 ≤ y → y < at → not (is_done (row_at b y)) ≡ false
    before y k j = ap not (ap (λ rows. is_done (state rows y)) e ∙ each_get (λ z. is_done z ≡ true) front (x ∷ map as_freed rest) d y (omega (arith, l, j)))

    first : first_open_row o b ≡ Some at
    first = found_if (λ r. not (is_done (row_at b r))) 0 (length o.txs) at (omega arith) (omega (arith, m, long, l)) (ap (λ z. not (is_done z)) here ∙ ap not open_) before

pub ending : (o : Opening) (b : Book) (front rest : List RowState) (at seq : ℕ) → b.rows ≡ front ++ map as_freed rest → length front ≡ at → length b.rows ≡ length o.txs → Each (λ x. is_done x ≡ true) front → seq ≡ next_seq b → Ending o b rest at seq
unfolding finishing_entries after_entries
ending o b front [] at seq e l m d q = record { legal = tt; done = subst (Each (λ x. is_done x ≡ true)) (sym (e ∙ append-nil front)) d }
ending o b front (row.Free c ∷ rest) at seq e l m d q =
    let t = ending_step o b front (row.Free c) rest at seq e l m d q refl refl in
    let f = ending o (with_placed o b at) (front ++ row.Done (next_seq b) ∷ []) rest (suc at) (suc seq) t.rows (omega (arith, l, length_push front (row.Done (next_seq b)))) t.as_many t.dones t.next in
    record { legal = (t.legal, f.legal); done = f.done }
ending o b front (row.Claimed u c s ∷ rest) at seq e l m d q =
    let t = ending_step o b front (row.Free c) rest at seq e l m d q refl refl in
    let f = ending o (with_placed o b at) (front ++ row.Done (next_seq b) ∷ []) rest (suc at) (suc seq) t.rows (omega (arith, l, length_push front (row.Done (next_seq b)))) t.as_many t.dones t.next in
    record { legal = (t.legal, f.legal); done = f.done }
ending o b front (row.Done n ∷ rest) at seq e l m d q =
    let f = ending o b (front ++ row.Done n ∷ []) rest (suc at) seq (e ∙ sym (append_assoc front (row.Done n ∷ []) (map as_freed rest))) (omega (arith, l, length_push front (row.Done n))) m (Each_more _ front (row.Done n) d refl) q in
    record { legal = f.legal; done = f.done }

-- after `finish`
pub record Finished (o : Opening) (b : Book) : Type 0 where
  pub legal : AreLegal o b (finish b)
  pub done : Each (λ x. is_done x ≡ true) (after_entries o b (finish b)).rows
  pub whole : IsLegal o.txs (after_entries o b (finish b)).journal

pub finished : LegalWhenWhole → (o : Opening) (b : Book) → Sound o b → Finished o b
unfolding finish
finished legal_when_whole o b s =
    let f = freeing o b [] b.rows 0 refl refl in
    let middle : Book = record b { rows = map as_freed b.rows } in
    let e : Ending o middle b.rows 0 (next_seq b) = ending o middle [] b.rows 0 (next_seq b) refl refl (length-map b.rows as_freed ∙ s.agree.as_many) tt refl in
    let legal : AreLegal o b (freeing_entries 0 b.rows ++ finishing_entries 0 (next_seq b) b.rows) = legal_more o b (freeing_entries 0 b.rows) (finishing_entries 0 (next_seq b) b.rows) f.legal (subst (λ c. AreLegal o c (finishing_entries 0 (next_seq b) b.rows)) (sym f.left) e.legal) in
    let last : after_entries o b (freeing_entries 0 b.rows ++ finishing_entries 0 (next_seq b) b.rows) ≡ after_entries o middle (finishing_entries 0 (next_seq b) b.rows) = after_more o b (freeing_entries 0 b.rows) (finishing_entries 0 (next_seq b) b.rows) ∙ ap (λ c. after_entries o c (finishing_entries 0 (next_seq b) b.rows)) f.left in
    let done : Each (λ x. is_done x ≡ true) (after_entries o b (freeing_entries 0 b.rows ++ finishing_entries 0 (next_seq b) b.rows)).rows = subst (λ (c : Book). Each (λ x. is_done x ≡ true) c.rows) (sym last) e.done in
    let t : Sound o (after_entries o b (freeing_entries 0 b.rows ++ finishing_entries 0 (next_seq b) b.rows)) = sound_from o b s (freeing_entries 0 b.rows ++ finishing_entries 0 (next_seq b) b.rows) legal in
    record {
      legal = legal;
      done = done;
      whole = legal_when_whole o.txs _ (so_far o.txs _ _ t.agree) (sym t.agree.counted ∙ count_all _ done ∙ t.agree.as_many);
    }
