-- A history under an opening with further transactions.
use Rattle.std.proofs.Common.{◌≡◌, ℕ, suc, zero, ◌+◌, ◌<◌, Bool, cond, not, ◌&&◌, ◌==◌, List, [], ◌∷◌, ◌++◌, length, map, Some, inl, inr, refl, sym, ap, ◌∙◌, subst, arith}
use Rattle.std.specs.Prelude.{filter, slice_get, slice_set, find}
use Rattle.std.specs.List.{list_all, range_with_len}
use Rattle.std.specs.Option.{option_map_or}
use Rattle.std.proofs.lemmas.List.{set-append_left, map-append, length-append}
use Rattle.ecf_lang.specs.declared.tx.Tx.{Tx}
use Rattle.ecf_verdicts.specs.Journals.{places, submitter_at}
use Rattle.ecf_verdicts.specs.ListLemmas.{In}
use Rattle.ecf_core.specs.declared.book.RowState.{RowState}
use Rattle.ecf_core.specs.declared.book.RowState.TheVariants as row
use Rattle.ecf_core.specs.declared.book.LogEntry.{LogEntry}
use Rattle.ecf_core.specs.declared.book.LogWhat.{LogWhat}
use Rattle.ecf_core.specs.declared.book.LogWhat.TheVariants as log
use Rattle.ecf_core.specs.Ledgers.{ledger_after}
use Rattle.ecf_core.specs.Book.{Opening, Book, new_book, row_at, is_claimed, is_done, has_claim_left, may_be_claimed, stales_under, next_seq, earlier_rows, as_claimed, as_stale, as_freed, with_placed, after_change, after_entry, after_entries}
use Rattle.ecf_core.specs.Legal.{IsLegalChange, AreLegal}
use Rattle.ecf_core.specs.Laws.{ExtendKeeps}
use Rattle.ecf_core.specs.Calls.{with_transactions}
use Rattle.ecf_core.proofs.ListLaws.{found_in, found_first, range_high, get_left}
use Rattle.ecf_core.proofs.RowLaws.{state, held_claimed, claimed_inside}
use Rattle.ecf_core.proofs.LedgerLaws.{tx_at}
use Rattle.ecf_core.proofs.CallLaws.{found_if}
use Rattle.ecf_core.proofs.ReachLaws.{Sound, sound_first, sound_step}

-- new rows, all Free
abbrev pub anew : List Tx → List RowState
anew txs = map (λ _. row.Free 0) txs

abbrev pub wider : List Tx → Book → Book
wider txs b = record b { rows = b.rows ++ anew txs }

-- no row's state is another there
same_state : (rows : List RowState) (txs : List Tx) (r : ℕ) → state (rows ++ anew txs) r ≡ state rows r
same_state [] [] r = refl
same_state [] (t ∷ txs) zero = refl
same_state [] (t ∷ txs) (suc r) = same_state [] txs r
same_state (x ∷ rows) txs zero = refl
same_state (x ∷ rows) txs (suc r) = same_state rows txs r

same_submitter : (txs more : List Tx) (r : ℕ) → r < length txs → submitter_at (txs ++ more) r ≡ submitter_at txs r
same_submitter [] more r l = absurd (omega arith)
same_submitter (t ∷ txs) more zero l = refl
same_submitter (t ∷ txs) more (suc r) l = same_submitter txs more r (omega arith)

filter_same : (p q : ℕ → Bool) (xs : List ℕ) → ((x : ℕ) → In x xs → p x ≡ q x) → filter p xs ≡ filter q xs
filter_same p q [] h = refl
filter_same p q (x ∷ xs) h =
    let deep = filter_same p q xs (λ y i. h y (inr i)) in
    λ i. cond (h x (inl refl) i) (x ∷ deep i) (deep i)

same_earlier : (txs more : List Tx) (r : ℕ) → r < length txs → earlier_rows (txs ++ more) r ≡ earlier_rows txs r
same_earlier txs more r l = filter_same (λ p. submitter_at (txs ++ more) p == submitter_at (txs ++ more) r) (λ p. submitter_at txs p == submitter_at txs r) (range_with_len 0 r)
    (λ x i j. (same_submitter txs more x (omega (arith, l, range_high 0 r x i)) j == same_submitter txs more r l j))

all_same : (p q : ℕ → Bool) (xs : List ℕ) → ((x : ℕ) → p x ≡ q x) → list_all p xs ≡ list_all q xs
all_same p q [] h = refl
all_same p q (x ∷ xs) h = λ i. h x i && all_same p q xs h i

-- what is first stays first
find_longer : (p q : ℕ → Bool) (txs more : List Tx) (r : ℕ) → ((x : ℕ) → x < length txs → p x ≡ q x) → find p (places txs) ≡ Some r → find q (places (txs ++ more)) ≡ Some r
find_longer p q txs more r same e =
    let r_in = found_in p (places txs) r e in
    let inside : r < 0 + length txs = range_high 0 (length txs) r r_in.0 in
    found_if q 0 (length (txs ++ more)) r (omega arith) (omega (arith, inside, length-append txs more)) (sym (same r (omega (arith, inside))) ∙ r_in.1)
    (λ y k l. sym (same y (omega (arith, inside, l))) ∙ found_first p 0 (length txs) r e y k l)

same_claimable : (o : Opening) (more : List Tx) (b : Book) (r : ℕ) → r < length o.txs → may_be_claimed o b r ≡ may_be_claimed (with_transactions o more) (wider more b) r
same_claimable o more b r l = λ i. has_claim_left (sym (same_state b.rows more r) i) && every i
  where
    every : list_all (λ q. is_done (row_at b q)) (earlier_rows o.txs r) ≡ list_all (λ q. is_done (row_at (wider more b) q)) (earlier_rows (o.txs ++ more) r)
    every = all_same _ _ (earlier_rows o.txs r) (λ q. ap is_done (sym (same_state b.rows more q))) ∙ ap (list_all (λ q. is_done (row_at (wider more b) q))) (sym (same_earlier o.txs more r l))

held_longer : (more : List Tx) (b : Book) (r ticket n : ℕ) → stales_under ticket (row_at b r) ≡ Some n → stales_under ticket (row_at (wider more b) r) ≡ Some n
held_longer more b r ticket n h = ap (stales_under ticket) (same_state b.rows more r) ∙ h

-- an entry that is legal is so there too
legal_longer : (o : Opening) (more : List Tx) (b : Book) (r ticket : ℕ) (what : LogWhat) → IsLegalChange o b r ticket what → IsLegalChange (with_transactions o more) (wider more b) r ticket what
legal_longer o more b r ticket log.Claimed h = (find_longer (may_be_claimed o b) (may_be_claimed (with_transactions o more) (wider more b)) o.txs more r (λ x l. same_claimable o more b x l) h.0, h.1)
legal_longer o more b r ticket (log.Placed seq) h = ((h.0.0, held_longer more b r ticket h.0.0 h.0.1), h.1)
legal_longer o more b r ticket (log.Stale cell was now) h = ((h.0.0, held_longer more b r ticket h.0.0 h.0.1, h.0.2), h.1)
legal_longer o more b r ticket (log.LastStale cell was now) h = ((h.0.0, held_longer more b r ticket h.0.0 h.0.1, h.0.2), h.1)
legal_longer o more b r ticket (log.Here seq) h = ((h.0.0, held_longer more b r ticket h.0.0 h.0.1), h.1)
legal_longer o more b r ticket log.Freed h = (h.0, held_longer more b r ticket h.0 h.1)
legal_longer o more b r ticket (log.Finished seq) h = ((λ q. ap is_claimed (same_state b.rows more q) ∙ h.0 q), find_longer (λ q. not (is_done (row_at b q))) (λ q. not (is_done (row_at (wider more b) q))) o.txs more r (λ x l. ap (λ y. not (is_done y)) (sym (same_state b.rows more x))) h.1, h.2, h.3)
legal_longer o more b r ticket (log.Off k) h = ((λ q. ap is_claimed (same_state b.rows more q) ∙ h.0 q), h.1, h.2, h.3)

-- and changes the same
moved_longer : (more : List Tx) (b : Book) (f : RowState → RowState) (r : ℕ) → r < length b.rows → slice_set (b.rows ++ anew more) r (f (row_at (wider more b) r)) ≡ slice_set b.rows r (f (row_at b r)) ++ anew more
moved_longer more b f r l = ap (λ x. slice_set (b.rows ++ anew more) r (f x)) (same_state b.rows more r) ∙ set-append_left b.rows (anew more) r (f (row_at b r)) l

placed_longer : (o : Opening) (more : List Tx) (b : Book) (r : ℕ) → r < length b.rows → length b.rows ≡ length o.txs → with_placed (with_transactions o more) (wider more b) r ≡ wider more (with_placed o b r)
placed_longer o more b r l m =
    let t = tx_at o.txs r (omega (arith, l, m)) in
    let ledgers : option_map_or (λ tx. ledger_after o.typed tx b.ledger) (slice_get (o.txs ++ more) r) b.ledger ≡ option_map_or (λ tx. ledger_after o.typed tx b.ledger) (slice_get o.txs r) b.ledger = ap (λ x. option_map_or (λ tx. ledger_after o.typed tx b.ledger) x b.ledger) (get_left o.txs more r t.0 t.1 ∙ sym t.1) in
    let rows = set-append_left b.rows (anew more) r (row.Done (next_seq b)) l in
    λ i. record b { rows = rows i; journal = b.journal ++ r ∷ []; ledger = ledgers i }

change_longer : (o : Opening) (more : List Tx) (b : Book) (r ticket : ℕ) (what : LogWhat) → Sound o b → IsLegalChange o b r ticket what → after_change (with_transactions o more) (wider more b) r ticket what ≡ wider more (after_change o b r ticket what)
change_longer o more b r ticket log.Claimed s h = ap (λ rows. record b { rows = rows; tickets = suc b.tickets }) (moved_longer more b (as_claimed ticket) r (omega (arith, s.agree.as_many, range_high 0 (length o.txs) r (found_in (may_be_claimed o b) (places o.txs) r h.0).0)))
change_longer o more b r ticket (log.Placed seq) s h = placed_longer o more b r (claimed_inside b.rows r (held_claimed ticket (row_at b r) h.0.0 h.0.1)) s.agree.as_many
change_longer o more b r ticket (log.Stale cell was now) s h = ap (λ rows. record b { rows = rows }) (moved_longer more b as_stale r (claimed_inside b.rows r (held_claimed ticket (row_at b r) h.0.0 h.0.1)))
change_longer o more b r ticket (log.LastStale cell was now) s h = ap (λ rows. record b { rows = rows }) (moved_longer more b as_stale r (claimed_inside b.rows r (held_claimed ticket (row_at b r) h.0.0 h.0.1)))
change_longer o more b r ticket (log.Here seq) s h = placed_longer o more b r (claimed_inside b.rows r (held_claimed ticket (row_at b r) h.0.0 h.0.1)) s.agree.as_many
change_longer o more b r ticket log.Freed s h = ap (λ rows. record b { rows = rows }) (moved_longer more b as_freed r (claimed_inside b.rows r (held_claimed ticket (row_at b r) h.0 h.1)))
change_longer o more b r ticket (log.Finished seq) s h = placed_longer o more b r (omega (arith, s.agree.as_many, range_high 0 (length o.txs) r (found_in (λ q. not (is_done (row_at b q))) (places o.txs) r h.1).0)) s.agree.as_many
change_longer o more b r ticket (log.Off k) s h = refl

longer_from : (o : Opening) (more : List Tx) (b : Book) → Sound o b → (es : List LogEntry) → AreLegal o b es → AreLegal (with_transactions o more) (wider more b) es × (after_entries (with_transactions o more) (wider more b) es ≡ wider more (after_entries o b es))
unfolding after_entries
longer_from o more b s [] h = (tt, refl)
longer_from o more b s (e ∷ es) h =
    let deep = longer_from o more (after_entry o b e) (sound_step o b e s h.0) es h.1 in
    let same = change_longer o more b e.row e.ticket e.what s h.0 in (
      (legal_longer o more b e.row e.ticket e.what h.0, subst (λ c. AreLegal (with_transactions o more) c es) (sym same) deep.0),
      ap (λ c. after_entries (with_transactions o more) c es) same ∙ deep.1,
    )

pub extend_keeps : ExtendKeeps
extend_keeps o more es h =
    let deep = longer_from o more (new_book o) (sound_first o) es h in
    let start : new_book (with_transactions o more) ≡ wider more (new_book o) = ap (λ rows. record (new_book o) { rows = rows }) (map-append (λ _. row.Free 0) o.txs more) in
    (subst (λ c. AreLegal (with_transactions o more) c es) (sym start) deep.0, ap (λ c. after_entries (with_transactions o more) c es) start ∙ deep.1)
