-- What transactions leave that are run one after the other under the eyes of watches.
use Rattle.std.specs.Prelude.{ℕ, ◌==◌, if◌then◌else◌, List, [], ◌∷◌, ◌++◌, length, map, Option, Some, None}
use Rattle.ecf_lang.specs.declared.receipt.Receipt.{Receipt}
use Rattle.ecf_lang.specs.declared.receipt.Receipt.TheVariants as receipt
use Rattle.ecf_lang.specs.declared.tx.Tx.{Tx}
use Rattle.ecf_lang.specs.declared.typed.Typed.{Typed}
use Rattle.ecf_lang.specs.Genesis.{genesis}
use Rattle.ecf_lang.specs.Meaning.{run}
use Rattle.ecf_lang.specs.Store.{Store, Cells}
use Rattle.ecf_verdicts.specs.Receipts.{receipt_on, next_store}
use Rattle.ecf_core.specs.Watches.{Watch, Watches, show_all, without_watch}

-- what transactions left so far: their receipts, the store and the watches
pub record Ledger : Type 0 where
  pub receipts : List Receipt
  pub store : Store
  pub watches : Watches

-- a receipt more
abbrev pub with_receipt : Receipt → Ledger → Ledger
with_receipt r ledger = record ledger { receipts = ledger.receipts ++ r ∷ [] }

-- after the votes on a transaction: its receipt and its next store where no watch voted no, else barred by the first that did
abbrev pub after_votes : Option ℕ → Watches → Receipt → ℕ → Store → Ledger → Ledger
after_votes None watches r fuel next ledger = record { receipts = ledger.receipts ++ r ∷ []; store = next; watches = watches }
after_votes (Some k) watches r fuel next ledger = record { receipts = ledger.receipts ++ receipt.Barred k fuel ∷ []; store = ledger.store; watches = watches }

-- a transaction more, by its receipt, its writes and its next store; only one to be committed is shown to the watches
abbrev pub with_result : Tx → Receipt → Cells → Store → Ledger → Ledger
with_result tx (receipt.Committed answer fuel orders) writes next ledger =
    let votes = show_all (record { tx = tx; answer = answer; fuel = fuel; writes = writes }) 0 ledger.watches in
    after_votes votes.no votes.watches (receipt.Committed answer fuel orders) fuel next ledger
with_result tx (receipt.Reverted cause fuel) writes next ledger = with_receipt (receipt.Reverted cause fuel) ledger
with_result tx (receipt.OutOfFuel fuel) writes next ledger = with_receipt (receipt.OutOfFuel fuel) ledger
with_result tx (receipt.Vetoed object at cycle fuel) writes next ledger = with_receipt (receipt.Vetoed object at cycle fuel) ledger
with_result tx (receipt.Barred watch fuel) writes next ledger = with_receipt (receipt.Barred watch fuel) ledger

-- a transaction more, run on the store that the others left
unfoldable pub ledger_after : Typed → Tx → Ledger → Ledger
ledger_after typed tx ledger =
    with_result tx (receipt_on typed ledger.store tx) (run typed ledger.store tx).writes (next_store typed ledger.store tx) ledger

-- that a watch was taken out: how many receipts there were then, and its place
pub record Off : Type 0 where
  pub after : ℕ
  pub watch : ℕ

-- the watches without those that were taken out after so many receipts
unfoldable pub without_offs : List Off → ℕ → Watches → Watches
without_offs [] n ws = ws
without_offs (off ∷ offs) n ws = without_offs offs n (if off.after == n then without_watch off.watch ws else ws)

-- the watches leave that were taken out at this point
abbrev pub after_offs : List Off → Ledger → Ledger
after_offs offs ledger = record ledger { watches = without_offs offs (length ledger.receipts) ledger.watches }

-- transactions one after the other; before each of them, and after the last, the watches leave that were taken out there
unfoldable pub watched_serial_from : Typed → List Off → Ledger → List Tx → Ledger
watched_serial_from typed offs ledger [] = after_offs offs ledger
watched_serial_from typed offs ledger (tx ∷ txs) = watched_serial_from typed offs (ledger_after typed tx (after_offs offs ledger)) txs

-- before the first transaction: the contract's initial values, and every watch is in
abbrev pub initial_ledger : Typed → List Watch → Ledger
initial_ledger typed watches = record { receipts = []; store = genesis typed; watches = map (λ w. Some w) watches }

-- transactions one after the other from the contract's initial values, with these watches and these taken out
abbrev pub watched_serial : Typed → List Watch → List Off → List Tx → Ledger
watched_serial typed watches offs txs = watched_serial_from typed offs (initial_ledger typed watches) txs
