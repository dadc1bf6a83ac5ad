-- A book that was just opened.
use Rattle.std.proofs.Common.{◌≡◌, ℕ, ◌*◌, ◌≤◌, List, [], length, map, All, refl, sym, ap, subst, arith}
use Rattle.std.proofs.lemmas.List.{length-map}
use Rattle.ecf_book.specs.Held.{held, Matches, Keeps}
use Rattle.ecf_book.specs.Recorded.{recorded, opening_of, state_of}
use Rattle.ecf_core.specs.declared.book.LogEntry.{LogEntry}
use Rattle.ecf_core.specs.declared.book.RowState.TheVariants as row
use Rattle.ecf_core.specs.Book.{after_entries}
use Rattle.ecf_core.specs.Counts.{most_entries}
use Rattle.ecf_heap.specs.Numbered.{IsWithinLimits}
use Rattle.ecf_lang.specs.declared.limits.TheConstants.{MAX_TRANSACTIONS}
use Rattle.ecf_lang.specs.declared.receipt.Entry.{Entry}
use Rattle.ecf_lang.specs.declared.tx.Tx.{Tx}
use Rattle.ecf_lang.specs.declared.typed.Typed.{Typed}
use Rattle.ecf_lang.specs.Fits.{Fits}
use Rattle.ecf_lang.specs.Genesis.{genesis}
use Rattle.ecf_lang.specs.Store.{Store}
use Rattle.ecf_rows.specs.Standing.{Standing, new_standing}

matches_none : (typed : Typed) (txs : List Tx) (rows : Standing) (journal : List Entry) (store : Store) → journal ≡ [] → rows ≡ new_standing txs → store ≡ genesis typed
    → Matches (opening_of (recorded typed txs []).setup) (state_of (recorded typed txs [])) 0 (held rows journal 0 store)
unfolding after_entries
matches_none typed txs rows journal store no_journal is_rows is_store = record {
  as_many = length-map txs (λ (_ : Tx). row.Free 0);
  few_tickets = omega arith;
  no_watch = refl;
  no_off = refl;
  rows = is_rows;
  listed = ap (map (λ (e : Entry). e.row)) no_journal;
  receipts = ap (map (λ (e : Entry). e.receipt)) no_journal;
  tickets = refl;
  store = is_store;
}

-- it keeps what every book keeps
pub opened_keeps : (typed : Typed) (txs : List Tx) (log : List LogEntry) (rows : Standing) (journal : List Entry) (store : Store) (journal_room log_room : ℕ)
    → IsWithinLimits typed → All (Fits typed) txs → length txs ≤ MAX_TRANSACTIONS → log ≡ [] → journal ≡ [] → rows ≡ new_standing txs → store ≡ genesis typed
    → length txs ≤ journal_room → most_entries * length txs ≤ log_room → Keeps (recorded typed txs log) (held rows journal 0 store) journal_room log_room
opened_keeps typed txs log rows journal store jr lr limits fits few no_log no_journal is_rows is_store room log_room =
    subst (λ (l : List LogEntry). Keeps (recorded typed txs l) (held rows journal 0 store) jr lr) (sym no_log) (record {
      holds = record { setup = record { limits = limits; fits = fits; few = few }; legal = tt; of_rows = tt; matches = matches_none typed txs rows journal store no_journal is_rows is_store };
      journal = room;
      log = log_room;
    })
