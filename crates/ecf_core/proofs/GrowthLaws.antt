-- Claims that find nothing, commits that find nothing changed, and journals that grow.
use Rattle.std.proofs.Common.{◌≡◌, ℕ, suc, zero, ◌+◌, ◌<◌, ◌≤◌, Bool, true, false, cond, not, ◌&&◌, ◌||◌, ◌==◌, List, [], ◌∷◌, ◌++◌, length, map, Option, Some, None, inl, inr, ◌⊎◌, refl, sym, ap, ◌∙◌, arith}
use Rattle.std.specs.Prelude.{filter, slice_get}
use Rattle.std.specs.List.{list_all, list_any, range_with_len}
use Rattle.std.specs.Option.{option_map_or}
use Rattle.std.proofs.lemmas.Bool.{eqb-true, eq-eqb, ltb-false}
use Rattle.std.proofs.lemmas.List.{append-nil, append_assoc}
use Rattle.ecf_lang.specs.declared.limits.TheConstants.{MAX_CLAIMS}
use Rattle.ecf_lang.specs.declared.tx.Tx.{Tx}
use Rattle.ecf_lang.specs.declared.receipt.Receipt.{Receipt}
use Rattle.ecf_lang.specs.declared.receipt.Receipt.TheVariants as receipt
use Rattle.ecf_lang.specs.Meaning.{run}
use Rattle.ecf_lang.specs.Store.{Store, Cells, read}
use Rattle.ecf_verdicts.specs.Receipts.{next_store, receipt_on}
use Rattle.ecf_verdicts.specs.SerialLaws.{IsCommitted}
use Rattle.ecf_verdicts.specs.Journals.{places, submitter_at}
use Rattle.ecf_verdicts.specs.ListLemmas.{Each, In, Each_from_all, In_filter}
use Rattle.ecf_core.specs.declared.book.RowState.{RowState}
use Rattle.ecf_core.specs.declared.book.RowState.TheVariants as row
use Rattle.ecf_core.specs.declared.book.LogEntry.{LogEntry}
use Rattle.ecf_core.specs.declared.book.LogWhat.{LogWhat}
use Rattle.ecf_core.specs.declared.book.LogWhat.TheVariants as log
use Rattle.ecf_core.specs.declared.event.Reply.{Reply}
use Rattle.ecf_core.specs.declared.event.Reply.TheVariants as reply
use Rattle.ecf_core.specs.Ledgers.{Ledger, after_votes, with_result, ledger_after}
use Rattle.ecf_core.specs.Watches.{Watches, show_all}
use Rattle.ecf_core.specs.Book.{Opening, Book, row_at, is_claimed, is_done, has_claim_left, may_be_claimed, claimable_row, earlier_rows, after_change, after_entry, after_entries}
use Rattle.ecf_core.specs.Calls.{claim_answer, claim, first_changed_read, commit_answer, if_held, commit}
use Rattle.ecf_core.specs.Counts.{places_row, placed_rows}
use Rattle.ecf_core.specs.Laws.{JournalGrows, ReceiptsGrow, CommitIsRight}
use Rattle.ecf_core.proofs.ListLaws.{false_not_true, found_none, in_range, range_high}
use Rattle.ecf_core.proofs.RowLaws.{state}

-- the journal grows by what entries place
placed_more : (e : LogEntry) (es : List LogEntry) → placed_rows (e ∷ es) ≡ cond (places_row e.what) (e.row ∷ placed_rows es) (placed_rows es)
placed_more e es = go (places_row e.what)
  where
    go : (b : Bool) → map (λ (e : LogEntry). e.row) (cond b (e ∷ filter (λ (e : LogEntry). places_row e.what) es) (filter (λ (e : LogEntry). places_row e.what) es)) ≡ cond b (e.row ∷ placed_rows es) (placed_rows es)
    go true = refl
    go false = refl

one_entry : (o : Opening) (b : Book) (r ticket : ℕ) (what : LogWhat) → (after_change o b r ticket what).journal ≡ b.journal ++ cond (places_row what) (r ∷ []) []
one_entry o b r ticket log.Claimed = sym (append-nil b.journal)
one_entry o b r ticket (log.Placed seq) = refl
one_entry o b r ticket (log.Stale cell was now) = sym (append-nil b.journal)
one_entry o b r ticket (log.LastStale cell was now) = sym (append-nil b.journal)
one_entry o b r ticket (log.Here seq) = refl
one_entry o b r ticket log.Freed = sym (append-nil b.journal)
one_entry o b r ticket (log.Finished seq) = refl
one_entry o b r ticket (log.Off k) = sym (append-nil b.journal)

pub journal_grows : JournalGrows
unfolding after_entries
journal_grows o b [] = sym (append-nil b.journal)
journal_grows o b (e ∷ es) =
    journal_grows o (after_entry o b e) es
    ∙ ap (λ l. l ++ placed_rows es) (one_entry o b e.row e.ticket e.what)
    ∙ append_assoc b.journal (cond (places_row e.what) (e.row ∷ []) []) (placed_rows es)
    ∙ ap (λ l. b.journal ++ l) (front (places_row e.what) ∙ sym (placed_more e es))
  where
    front : (c : Bool) → cond c (e.row ∷ []) [] ++ placed_rows es ≡ cond c (e.row ∷ placed_rows es) (placed_rows es)
    front true = refl
    front false = refl

-- receipts are only added
Grown : Ledger → Ledger → Type 0
Grown l m = (more : List Receipt) × (m.receipts ≡ l.receipts ++ more)

voted_grows : (v : Option ℕ) (ws : Watches) (r : Receipt) (fuel : ℕ) (s : Store) (l : Ledger) → Grown l (after_votes v ws r fuel s l)
unfolding Grown
voted_grows None ws r fuel s l = (r ∷ [], refl)
voted_grows (Some k) ws r fuel s l = (receipt.Barred k fuel ∷ [], refl)

result_grows : (tx : Tx) (r : Receipt) (writes : Cells) (s : Store) (l : Ledger) → Grown l (with_result tx r writes s l)
unfolding Grown
result_grows tx (receipt.Committed answer fuel orders) writes s l =
    let v = show_all (record { tx = tx; answer = answer; fuel = fuel; writes = writes }) 0 l.watches in
    voted_grows v.no v.watches (receipt.Committed answer fuel orders) fuel s l
result_grows tx (receipt.Reverted cause fuel) writes s l = (receipt.Reverted cause fuel ∷ [], refl)
result_grows tx (receipt.OutOfFuel fuel) writes s l = (receipt.OutOfFuel fuel ∷ [], refl)
result_grows tx (receipt.Vetoed object at cycle fuel) writes s l = (receipt.Vetoed object at cycle fuel ∷ [], refl)
result_grows tx (receipt.Barred watch fuel) writes s l = (receipt.Barred watch fuel ∷ [], refl)

stays : (l : Ledger) → Grown l l
unfolding Grown
stays l = ([], sym (append-nil l.receipts))

placed_grows : (o : Opening) (l : Ledger) (x : Option Tx) → Grown l (option_map_or (λ tx. ledger_after o.typed tx l) x l)
unfolding ledger_after
placed_grows o l None = stays l
placed_grows o l (Some tx) = result_grows tx (receipt_on o.typed l.store tx) (run o.typed l.store tx).writes (next_store o.typed l.store tx) l

change_grows : (o : Opening) (b : Book) (r ticket : ℕ) (what : LogWhat) → Grown b.ledger (after_change o b r ticket what).ledger
unfolding Grown
change_grows o b r ticket log.Claimed = stays b.ledger
change_grows o b r ticket (log.Placed seq) = placed_grows o b.ledger (slice_get o.txs r)
change_grows o b r ticket (log.Stale cell was now) = stays b.ledger
change_grows o b r ticket (log.LastStale cell was now) = stays b.ledger
change_grows o b r ticket (log.Here seq) = placed_grows o b.ledger (slice_get o.txs r)
change_grows o b r ticket log.Freed = stays b.ledger
change_grows o b r ticket (log.Finished seq) = placed_grows o b.ledger (slice_get o.txs r)
change_grows o b r ticket (log.Off k) = ([], sym (append-nil b.ledger.receipts))

pub receipts_grow : ReceiptsGrow
unfolding after_entries Grown
receipts_grow o b [] = ([], sym (append-nil b.ledger.receipts))
receipts_grow o b (e ∷ es) =
    let first = change_grows o b e.row e.ticket e.what in
    let deep = receipts_grow o (after_entry o b e) es in
    (first.0 ++ deep.0, deep.1 ∙ ap (λ l. l ++ deep.0) first.1 ∙ append_assoc b.ledger.receipts first.0 deep.0)

-- a claim that answers Over
over_none : (b : Book) (x : Option ℕ) → (claim_answer b x).reply ≡ reply.Over → (x ≡ None) × (list_any is_claimed b.rows ≡ false)
over_none b None e = (refl, go (list_any is_claimed b.rows) e)
  where
    IsOver : Reply → Bool
    IsOver reply.Over = true
    IsOver other = false

    go : (c : Bool) → cond c reply.Later reply.Over ≡ reply.Over → c ≡ false
    go true f = false_not_true refl (ap IsOver f)
    go false f = refl
over_none b (Some r) e = false_not_true refl (ap IsOver e)
  where
    IsOver : Reply → Bool
    IsOver reply.Over = true
    IsOver other = false

pub any_none : (rows : List RowState) → list_any is_claimed rows ≡ false → (r : ℕ) → is_claimed (state rows r) ≡ false
any_none [] e r = refl
any_none (x ∷ rows) e zero = or_first (is_claimed x) (list_any is_claimed rows) e
  where
    or_first : (a b : Bool) → (a || b) ≡ false → a ≡ false
    or_first true b f = f
    or_first false b f = refl
any_none (x ∷ rows) e (suc r) = any_none rows (or_second (is_claimed x) (list_any is_claimed rows) e) r
  where
    or_second : (a b : Bool) → (a || b) ≡ false → b ≡ false
    or_second true b f = false_not_true f refl
    or_second false b f = f

-- either each is such, or one isn't
all_or_one : (p : ℕ → Bool) (xs : List ℕ) → (list_all p xs ≡ true) ⊎ ((x : ℕ) × In x xs × (p x ≡ false))
all_or_one p [] = inl refl
all_or_one p (x ∷ xs) = go (p x) refl (all_or_one p xs)
  where
    go : (b : Bool) → p x ≡ b → (list_all p xs ≡ true) ⊎ ((y : ℕ) × In y xs × (p y ≡ false)) → ((p x && list_all p xs) ≡ true) ⊎ ((y : ℕ) × In y (x ∷ xs) × (p y ≡ false))
    go true e (inl h) = inl (ap (λ b. b && list_all p xs) e ∙ h)
    go true e (inr h) = inr (h.0, inr h.1, h.2)
    go false e h = inr (x, inl refl, e)

-- the row, or an earlier one of its submitter, is Free and was claimed often enough
abbrev pub Waits : Opening → Book → ℕ → Type 0
Waits o b r = (q : ℕ) × (q ≤ r) × (submitter_at o.txs q ≡ submitter_at o.txs r) × ((c : ℕ) × (row_at b q ≡ row.Free c) × (MAX_CLAIMS ≤ c))

spent : (b : Book) (r : ℕ) (x : RowState) → row_at b r ≡ x → is_claimed x ≡ false → is_done x ≡ false → has_claim_left x ≡ false → (c : ℕ) × (row_at b r ≡ row.Free c) × (MAX_CLAIMS ≤ c)
spent b r (row.Free c) is e f g = (c, is, ltb-false c MAX_CLAIMS g)
spent b r (row.Claimed t c s) is e f g = false_not_true e refl
spent b r (row.Done n) is e f g = false_not_true f refl

waits : (o : Opening) (b : Book) → claimable_row o b ≡ None → list_any is_claimed b.rows ≡ false → (n r : ℕ) → r < n → r < length o.txs → is_done (row_at b r) ≡ false → Waits o b r
waits o b none idle zero r l inside open_ = absurd (omega arith)
waits o b none idle (suc n) r l inside open_ =
    elim (all_or_one (λ q. is_done (row_at b q)) (earlier_rows o.txs r)) [
      | inl all ↦ (r, omega arith, refl, spent b r (row_at b r) refl (any_none b.rows idle r) open_ (first_not (has_claim_left (row_at b r)) (list_all (λ q. is_done (row_at b q)) (earlier_rows o.txs r)) all (found_none (may_be_claimed o b) (places o.txs) none r (in_range 0 (length o.txs) r (omega arith) (omega arith)))))
      | inr one ↦
          let q_in = In_filter (λ p. submitter_at o.txs p == submitter_at o.txs r) (range_with_len 0 r) one.0 one.1 in
          let lower : one.0 < 0 + r = range_high 0 r one.0 q_in.0 in
          let w = waits o b none idle n one.0 (omega (arith, lower)) (omega (arith, lower)) one.2 in
          (w.0, omega (arith, w.1, lower), w.2 ∙ eqb-true _ _ q_in.1, w.3)
    ]
  where
    first_not : (a c : Bool) → c ≡ true → (a && c) ≡ false → a ≡ false
    first_not true c e f = false_not_true f e
    first_not false c e f = refl

-- a row that isn't Done, when a claim answers Over
pub waiting_row : (o : Opening) (b : Book) → (claim o b).reply ≡ reply.Over → (r : ℕ) → r < length o.txs → is_done (row_at b r) ≡ false → Waits o b r
unfolding claim
waiting_row o b e r inside open_ =
    let n = over_none b (claimable_row o b) e in
    waits o b n.0 n.1 (suc r) r (omega arith) inside open_

-- a commit whose reads agree
pub nothing_changed : (reads : Cells) (store : Store) → Each (λ pair. read store pair.0 ≡ pair.1) reads → first_changed_read reads store ≡ None
nothing_changed [] store h = refl
nothing_changed (pair ∷ reads) store h = ap (λ c. cond (not c) (Some pair) (first_changed_read reads store)) (eq-eqb _ _ h.0) ∙ nothing_changed reads store h.1

-- the ledger after it, by the cases of the receipt
result_same : (tx : Tx) (r : Receipt) (writes others : Cells) (s : Store) (l : Ledger) → (IsCommitted r → writes ≡ others) → with_result tx r writes s l ≡ with_result tx r others s l
result_same tx (receipt.Committed answer fuel orders) writes others s l h = ap (λ w. with_result tx (receipt.Committed answer fuel orders) w s l) (h tt)
result_same tx (receipt.Reverted cause fuel) writes others s l h = refl
result_same tx (receipt.OutOfFuel fuel) writes others s l h = refl
result_same tx (receipt.Vetoed object at cycle fuel) writes others s l h = refl
result_same tx (receipt.Barred watch fuel) writes others s l h = refl

pub commit_is_right : CommitIsRight
unfolding commit ledger_after after_entries
commit_is_right o b r ticket stales j judged at is_store held agrees =
    let quiet = nothing_changed j.reads b.ledger.store (Each_from_all (λ pair. read b.ledger.store pair.0 ≡ pair.1) j.reads agrees) in
    let right = judged.right b.ledger.store is_store agrees in
    let answer : commit b r ticket j.reads ≡ commit_answer b r ticket stales None = ap (λ x. if_held b r x (λ n. commit_answer b r ticket n (first_changed_read j.reads b.ledger.store))) held ∙ ap (commit_answer b r ticket stales) quiet in (
      ap (λ (a : Rattle.ecf_core.specs.Calls.Answer). a.reply) answer,
      ap (λ (a : Rattle.ecf_core.specs.Calls.Answer). (after_entries o b a.entries).ledger) answer
          ∙ ap (λ x. option_map_or (λ tx. ledger_after o.typed tx b.ledger) x b.ledger) at
          ∙ ap (λ q. with_result j.tx q (run o.typed b.ledger.store j.tx).writes (next_store o.typed b.ledger.store j.tx) b.ledger) right.receipt
          ∙ result_same j.tx j.receipt (run o.typed b.ledger.store j.tx).writes j.writes (next_store o.typed b.ledger.store j.tx) b.ledger right.writes
          ∙ ap (λ s. with_result j.tx j.receipt j.writes s b.ledger) right.leaves,
    )
