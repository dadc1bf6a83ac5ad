-- Stores of books are stores; and a claim that finds nothing though rows are left.
use Rattle.std.proofs.Common.{ℕ, cond, List, [], ◌∷◌, Option, Some, None, refl, ap}
use Rattle.std.specs.Prelude.{slice_get}
use Rattle.std.specs.List.{list_all}
use Rattle.ecf_core.specs.declared.book.RowState.TheVariants as row
use Rattle.std.specs.Option.{option_map_or}
use Rattle.std.proofs.lemmas.Bool.{eq-eqb}
use Rattle.ecf_lang.specs.declared.receipt.Receipt.{Receipt}
use Rattle.ecf_lang.specs.declared.receipt.Receipt.TheVariants as receipt
use Rattle.ecf_lang.specs.declared.tx.Tx.{Tx}
use Rattle.ecf_lang.specs.declared.typed.Typed.{Typed}
use Rattle.ecf_lang.specs.Meaning.{run}
use Rattle.ecf_lang.specs.Store.{Store, Cells, IsStore}
use Rattle.ecf_laws.specs.Laws.{RunKeepsStore}
use Rattle.ecf_stores.specs.StoreLaws.{genesis_is_store}
use Rattle.ecf_verdicts.specs.Receipts.{store_after, next_store, receipt_on}
use Rattle.ecf_core.specs.declared.book.LogEntry.{LogEntry}
use Rattle.ecf_core.specs.declared.book.LogWhat.{LogWhat}
use Rattle.ecf_core.specs.declared.book.LogWhat.TheVariants as log
use Rattle.ecf_core.specs.Ledgers.{Ledger, after_votes, with_result, ledger_after}
use Rattle.ecf_core.specs.Watches.{Watches, show_all}
use Rattle.ecf_core.specs.Book.{Opening, Book, new_book, row_at, is_done, after_change, after_entry, after_entries}
use Rattle.ecf_core.specs.Calls.{claim, claim_answer}
use Rattle.ecf_core.specs.Laws.{StoreIsStore, OverWithRowsLeft}

voted_store : (v : Option ℕ) (ws : Watches) (r : Receipt) (fuel : ℕ) (s : Store) (l : Ledger) → IsStore s → IsStore l.store → IsStore (after_votes v ws r fuel s l).store
voted_store None ws r fuel s l h k = h
voted_store (Some n) ws r fuel s l h k = k

result_store : (tx : Tx) (r : Receipt) (writes : Cells) (s : Store) (l : Ledger) → IsStore s → IsStore l.store → IsStore (with_result tx r writes s l).store
result_store tx (receipt.Committed answer fuel orders) writes s l h k =
    let v = show_all (record { tx = tx; answer = answer; fuel = fuel; writes = writes }) 0 l.watches in
    voted_store v.no v.watches (receipt.Committed answer fuel orders) fuel s l h k
result_store tx (receipt.Reverted cause fuel) writes s l h k = k
result_store tx (receipt.OutOfFuel fuel) writes s l h k = k
result_store tx (receipt.Vetoed object at cycle fuel) writes s l h k = k
result_store tx (receipt.Barred watch fuel) writes s l h k = k

kept_store : (r : Receipt) (s t : Store) → IsStore s → IsStore t → IsStore (store_after r s t)
kept_store (receipt.Committed answer fuel orders) s t h k = k
kept_store (receipt.Reverted cause fuel) s t h k = h
kept_store (receipt.OutOfFuel fuel) s t h k = h
kept_store (receipt.Vetoed object at cycle fuel) s t h k = h
kept_store (receipt.Barred watch fuel) s t h k = h

following_store : RunKeepsStore → (typed : Typed) (s : Store) (tx : Tx) → IsStore s → IsStore (next_store typed s tx)
unfolding next_store
following_store keeps typed s tx h = kept_store (receipt_on typed s tx) s (run typed s tx).store h (keeps typed s tx h)

ledger_store : RunKeepsStore → (typed : Typed) (tx : Tx) (l : Ledger) → IsStore l.store → IsStore (ledger_after typed tx l).store
unfolding ledger_after
ledger_store keeps typed tx l h = result_store tx (receipt_on typed l.store tx) (run typed l.store tx).writes (next_store typed l.store tx) l (following_store keeps typed l.store tx h) h

placed_store : RunKeepsStore → (o : Opening) (b : Book) (x : Option Tx) → IsStore b.ledger.store → IsStore (option_map_or (λ tx. ledger_after o.typed tx b.ledger) x b.ledger).store
placed_store keeps o b None h = h
placed_store keeps o b (Some tx) h = ledger_store keeps o.typed tx b.ledger h

change_store : RunKeepsStore → (o : Opening) (b : Book) (r ticket : ℕ) (what : LogWhat) → IsStore b.ledger.store → IsStore (after_change o b r ticket what).ledger.store
change_store keeps o b r ticket log.Claimed h = h
change_store keeps o b r ticket (log.Placed seq) h = placed_store keeps o b (slice_get o.txs r) h
change_store keeps o b r ticket (log.Stale cell was now) h = h
change_store keeps o b r ticket (log.LastStale cell was now) h = h
change_store keeps o b r ticket (log.Here seq) h = placed_store keeps o b (slice_get o.txs r) h
change_store keeps o b r ticket log.Freed h = h
change_store keeps o b r ticket (log.Finished seq) h = placed_store keeps o b (slice_get o.txs r) h
change_store keeps o b r ticket (log.Off k) h = h

entries_store : RunKeepsStore → (o : Opening) (b : Book) (es : List LogEntry) → IsStore b.ledger.store → IsStore (after_entries o b es).ledger.store
unfolding after_entries
entries_store keeps o b [] h = h
entries_store keeps o b (e ∷ es) h = entries_store keeps o (after_entry o b e) es (change_store keeps o b e.row e.ticket e.what h)

pub store_is_store : RunKeepsStore → StoreIsStore
store_is_store keeps o es = entries_store keeps o (new_book o) es (genesis_is_store o.typed)

pub over_with_rows_left : OverWithRowsLeft
unfolding after_entries claim
over_with_rows_left typed tx =
    let o : Opening = record { typed = typed; txs = tx ∷ tx ∷ []; watches = [] } in
    let b : Book = record (new_book o) { rows = row.Free 4 ∷ row.Free 0 ∷ []; tickets = 4 } in (
      refl,
      ((refl, refl), ((0, refl), ((refl, refl), ((0, refl), ((refl, refl), ((0, refl), ((refl, refl), ((0, refl), tt)))))))),
      ap (λ c. (claim_answer b (cond (list_all (λ q. is_done (row_at b q)) (cond c (0 ∷ []) [])) (Some 1) None)).reply) (eq-eqb tx.submitter tx.submitter refl),
    )
