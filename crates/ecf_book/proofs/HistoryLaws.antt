-- Histories that go on, and ledgers without watches.
use Rattle.std.proofs.Common.{◌≡◌, List, [], ◌∷◌, ◌++◌, refl, ap, sym, ◌∙◌}
use Rattle.std.proofs.lemmas.List.{append_assoc, append-nil}
use Rattle.ecf_book.specs.Recorded.{Recorded, opening_of, state_of, with_entries}
use Rattle.ecf_core.specs.declared.book.LogEntry.{LogEntry}
use Rattle.ecf_core.specs.Book.{Opening, Book, after_entry, after_entries}
use Rattle.ecf_core.specs.Ledgers.{Ledger, ledger_after, with_result}
use Rattle.ecf_core.specs.Watches.{show_all}
use Rattle.ecf_core.specs.Legal.{AreLegal}
use Rattle.ecf_lang.specs.declared.receipt.Receipt.{Receipt}
use Rattle.ecf_lang.specs.declared.receipt.Receipt.TheVariants as receipt
use Rattle.ecf_lang.specs.declared.tx.Tx.{Tx}
use Rattle.ecf_lang.specs.declared.typed.Typed.{Typed}
use Rattle.ecf_lang.specs.Meaning.{run}
use Rattle.ecf_lang.specs.Store.{Store, Cells}
use Rattle.ecf_verdicts.specs.Receipts.{receipt_on, next_store, store_after}

-- entries after entries
pub after_more : (o : Opening) (b : Book) (es fs : List LogEntry) → after_entries o b (es ++ fs) ≡ after_entries o (after_entries o b es) fs
unfolding after_entries
after_more o b [] fs = refl
after_more o b (e ∷ es) fs = after_more o (after_entry o b e) es fs

pub after_one : (o : Opening) (b : Book) (es : List LogEntry) (e : LogEntry) → after_entries o b (es ++ e ∷ []) ≡ after_entry o (after_entries o b es) e
unfolding after_entries
after_one o b es e = after_more o b es (e ∷ [])

pub legal_more : (o : Opening) (b : Book) (es fs : List LogEntry) → AreLegal o b es → AreLegal o (after_entries o b es) fs → AreLegal o b (es ++ fs)
unfolding after_entries
legal_more o b [] fs h k = k
legal_more o b (e ∷ es) fs h k = (h.0, legal_more o (after_entry o b e) es fs h.1 k)

-- of legal entries the later ones are legal in the book that the earlier ones lead to
pub legal_rest : (o : Opening) (b : Book) (es fs : List LogEntry) → AreLegal o b (es ++ fs) → AreLegal o (after_entries o b es) fs
unfolding after_entries
legal_rest o b [] fs h = h
legal_rest o b (e ∷ es) fs h = legal_rest o (after_entry o b e) es fs h.1

-- the state of a book with further entries
pub state_more : (b : Recorded) (es : List LogEntry) → state_of (with_entries b es) ≡ after_entries (opening_of b.setup) (state_of b) es
state_more b es = after_more (opening_of b.setup) _ b.entries es

pub state_one : (b : Recorded) (e : LogEntry) → state_of (with_entries b (e ∷ [])) ≡ after_entry (opening_of b.setup) (state_of b) e
state_one b e = after_one (opening_of b.setup) _ b.entries e

-- no entries more
pub nothing_more : (b : Recorded) → b ≡ with_entries b []
nothing_more b = ap (λ l. record { setup = b.setup; entries = l }) (sym (append-nil b.entries))

-- entries after entries, in a book
pub more_twice : (b : Recorded) (es fs : List LogEntry) → with_entries (with_entries b es) fs ≡ with_entries b (es ++ fs)
more_twice b es fs = ap (λ l. record { setup = b.setup; entries = l }) (append_assoc b.entries es fs)

-- without watches, a transaction more is its receipt more and its next store
plain_result : (tx : Tx) (r : Receipt) (writes : Cells) (rs : List Receipt) (store next : Store)
    → with_result tx r writes (store_after r store next) (record { receipts = rs; store = store; watches = [] })
    ≡ record { receipts = rs ++ r ∷ []; store = store_after r store next; watches = [] }
unfolding show_all
plain_result tx (receipt.Committed answer fuel orders) writes rs store next = refl
plain_result tx (receipt.Reverted cause fuel) writes rs store next = refl
plain_result tx (receipt.OutOfFuel fuel) writes rs store next = refl
plain_result tx (receipt.Vetoed object at cycle fuel) writes rs store next = refl
plain_result tx (receipt.Barred watch fuel) writes rs store next = refl

pub plain_ledger : (typed : Typed) (tx : Tx) (l : Ledger) → l.watches ≡ [] → ledger_after typed tx l ≡ record { receipts = l.receipts ++ receipt_on typed l.store tx ∷ []; store = next_store typed l.store tx; watches = [] }
unfolding ledger_after next_store
plain_ledger typed tx l e =
    ap (λ ws. with_result tx (receipt_on typed l.store tx) (run typed l.store tx).writes (next_store typed l.store tx) (record { receipts = l.receipts; store = l.store; watches = ws })) e
    ∙ plain_result tx (receipt_on typed l.store tx) (run typed l.store tx).writes l.receipts l.store (run typed l.store tx).store
