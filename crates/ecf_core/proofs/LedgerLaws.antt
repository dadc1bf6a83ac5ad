-- The ledger of a book is that of its journal's transactions, one after the other.
use Rattle.std.proofs.Common.{◌≡◌, ℕ, suc, zero, ◌+◌, ◌<◌, ◌≤◌, Bool, true, false, cond, ◌==◌, List, [], ◌∷◌, ◌++◌, length, Option, Some, None, refl, sym, ap, ◌∙◌, arith}
use Rattle.std.specs.Prelude.{slice_get}
use Rattle.std.specs.List.{cons_option}
use Rattle.std.specs.Option.{option_map_or}
use Rattle.std.proofs.lemmas.Bool.{eqb-true, eq-eqb}
use Rattle.std.proofs.lemmas.List.{length_push, append-nil, append_assoc}
use Rattle.std.proofs.lemmas.List.Elements.{filter_map-append}
use Rattle.ecf_lang.specs.declared.receipt.Receipt.{Receipt}
use Rattle.ecf_lang.specs.declared.receipt.Receipt.TheVariants as receipt
use Rattle.ecf_lang.specs.declared.tx.Tx.{Tx}
use Rattle.ecf_lang.specs.declared.typed.Typed.{Typed}
use Rattle.ecf_lang.specs.Meaning.{run}
use Rattle.ecf_lang.specs.Store.{Store, Cells}
use Rattle.ecf_verdicts.specs.Journals.{along}
use Rattle.ecf_verdicts.specs.Receipts.{receipt_on, next_store, store_after, serial_from}
use Rattle.ecf_verdicts.specs.ListLemmas.{Each, Each_weaker}
use Rattle.ecf_core.specs.Watches.{Watch, Watches, show_all, without_watch}
use Rattle.ecf_core.specs.Ledgers.{Ledger, Off, after_votes, with_result, ledger_after, without_offs, after_offs, watched_serial_from, watched_serial, initial_ledger}
use Rattle.ecf_core.proofs.ListLaws.{Each_more}

-- each transaction adds one receipt
voted_length : (v : Option ℕ) (ws : Watches) (r : Receipt) (fuel : ℕ) (s : Store) (l : Ledger) → length (after_votes v ws r fuel s l).receipts ≡ suc (length l.receipts)
voted_length None ws r fuel s l = omega (arith, length_push l.receipts r)
voted_length (Some k) ws r fuel s l = omega (arith, length_push l.receipts (receipt.Barred k fuel))

result_length : (tx : Tx) (r : Receipt) (writes : Cells) (s : Store) (l : Ledger) → length (with_result tx r writes s l).receipts ≡ suc (length l.receipts)
result_length tx (receipt.Committed answer fuel orders) writes s l =
    let v = show_all (record { tx = tx; answer = answer; fuel = fuel; writes = writes }) 0 l.watches in
    voted_length v.no v.watches (receipt.Committed answer fuel orders) fuel s l
result_length tx (receipt.Reverted cause fuel) writes s l = omega (arith, length_push l.receipts (receipt.Reverted cause fuel))
result_length tx (receipt.OutOfFuel fuel) writes s l = omega (arith, length_push l.receipts (receipt.OutOfFuel fuel))
result_length tx (receipt.Vetoed object at cycle fuel) writes s l = omega (arith, length_push l.receipts (receipt.Vetoed object at cycle fuel))
result_length tx (receipt.Barred watch fuel) writes s l = omega (arith, length_push l.receipts (receipt.Barred watch fuel))

pub length_after : (typed : Typed) (tx : Tx) (l : Ledger) → length (ledger_after typed tx l).receipts ≡ suc (length l.receipts)
unfolding ledger_after
length_after typed tx l = result_length tx (receipt_on typed l.store tx) (run typed l.store tx).writes (next_store typed l.store tx) l

-- offs at other lengths do nothing
no_offs : (offs : List Off) (n : ℕ) (ws : Watches) → Each (λ off. off.after < n) offs → without_offs offs n ws ≡ ws
unfolding without_offs
no_offs [] n ws h = refl
no_offs (off ∷ offs) n ws h = go (off.after == n) refl (no_offs offs n ws h.1)
  where
    go : (b : Bool) → (off.after == n) ≡ b → without_offs offs n ws ≡ ws → without_offs offs n (cond b (without_watch off.watch ws) ws) ≡ ws
    go true e deep = absurd (omega (arith, h.0, eqb-true off.after n e))
    go false e deep = deep

offs_more : (offs : List Off) (off : Off) (n : ℕ) (ws : Watches) → without_offs (offs ++ off ∷ []) n ws ≡ cond (off.after == n) (without_watch off.watch (without_offs offs n ws)) (without_offs offs n ws)
unfolding without_offs
offs_more [] off n ws = refl
offs_more (o ∷ offs) off n ws = offs_more offs off n (cond (o.after == n) (without_watch o.watch ws) ws)

-- one transaction more
pub watched_place : (typed : Typed) (offs : List Off) (l : Ledger) (txs : List Tx) (tx : Tx) → Each (λ off. off.after ≤ length l.receipts + length txs) offs → watched_serial_from typed offs l (txs ++ tx ∷ []) ≡ ledger_after typed tx (watched_serial_from typed offs l txs)
unfolding watched_serial_from
watched_place typed offs l [] tx h =
    let p = ledger_after typed tx (after_offs offs l) in
    let longer = length_after typed tx (after_offs offs l) in
    ap (λ ws. record p { watches = ws }) (no_offs offs (length p.receipts) p.watches (Each_weaker _ _ offs (λ off e. omega (arith, e, longer)) h))
watched_place typed offs l (t ∷ txs) tx h =
    let longer = length_after typed t (after_offs offs l) in
    watched_place typed offs (ledger_after typed t (after_offs offs l)) txs tx (Each_weaker _ _ offs (λ off e. omega (arith, e, longer)) h)

-- one watch more taken out at the end
pub watched_off : (typed : Typed) (offs : List Off) (l : Ledger) (txs : List Tx) (n k : ℕ) → n ≡ length l.receipts + length txs → watched_serial_from typed (offs ++ record { after = n; watch = k } ∷ []) l txs ≡ (let w = watched_serial_from typed offs l txs in record w { watches = without_watch k w.watches })
unfolding watched_serial_from
watched_off typed offs l [] n k e = ap (λ ws. record l { watches = ws }) (offs_more offs (record { after = n; watch = k }) (length l.receipts) l.watches ∙ ap (λ b. cond b (without_watch k (without_offs offs (length l.receipts) l.watches)) (without_offs offs (length l.receipts) l.watches)) (eq-eqb n (length l.receipts) (omega (arith, e))))
watched_off typed offs l (t ∷ txs) n k e =
    let before : after_offs (offs ++ record { after = n; watch = k } ∷ []) l ≡ after_offs offs l = ap (λ ws. record l { watches = ws }) (offs_more offs (record { after = n; watch = k }) (length l.receipts) l.watches ∙ other (n == length l.receipts) refl) in
    let longer = length_after typed t (after_offs offs l) in
    ap (λ m. watched_serial_from typed (offs ++ record { after = n; watch = k } ∷ []) (ledger_after typed t m) txs) before ∙ watched_off typed offs (ledger_after typed t (after_offs offs l)) txs n k (omega (arith, e, longer))
  where
    other : (b : Bool) → (n == length l.receipts) ≡ b → cond b (without_watch k (without_offs offs (length l.receipts) l.watches)) (without_offs offs (length l.receipts) l.watches) ≡ without_offs offs (length l.receipts) l.watches
    other true f = absurd (omega (arith, e, eqb-true n (length l.receipts) f))
    other false f = refl

-- with no watch it is the serial run
plain_result : (tx : Tx) (r : Receipt) (writes : Cells) (rs : List Receipt) (s t : Store) → with_result tx r writes (store_after r s t) (record { receipts = rs; store = s; watches = [] }) ≡ record { receipts = rs ++ r ∷ []; store = store_after r s t; watches = [] }
unfolding show_all
plain_result tx (receipt.Committed answer fuel orders) writes rs s t = refl
plain_result tx (receipt.Reverted cause fuel) writes rs s t = refl
plain_result tx (receipt.OutOfFuel fuel) writes rs s t = refl
plain_result tx (receipt.Vetoed object at cycle fuel) writes rs s t = refl
plain_result tx (receipt.Barred watch fuel) writes rs s t = refl

plain_place : (typed : Typed) (tx : Tx) (rs : List Receipt) (s : Store) → ledger_after typed tx (record { receipts = rs; store = s; watches = [] }) ≡ record { receipts = rs ++ receipt_on typed s tx ∷ []; store = next_store typed s tx; watches = [] }
unfolding ledger_after next_store
plain_place typed tx rs s = plain_result tx (receipt_on typed s tx) (run typed s tx).writes rs s (run typed s tx).store

pub plain : (typed : Typed) (rs : List Receipt) (s : Store) (txs : List Tx) → watched_serial_from typed [] (record { receipts = rs; store = s; watches = [] }) txs ≡ record { receipts = rs ++ (serial_from typed s txs).receipts; store = (serial_from typed s txs).store; watches = [] }
unfolding watched_serial_from serial_from without_offs
plain typed rs s [] = ap (λ l. record { receipts = l; store = s; watches = [] }) (sym (append-nil rs))
plain typed rs s (tx ∷ txs) =
    ap (λ l. watched_serial_from typed [] l txs) (plain_place typed tx rs s)
    ∙ plain typed (rs ++ receipt_on typed s tx ∷ []) (next_store typed s tx) txs
    ∙ ap (λ l. record { receipts = l; store = (serial_from typed (next_store typed s tx) txs).store; watches = [] }) (append_assoc rs (receipt_on typed s tx ∷ []) (serial_from typed (next_store typed s tx) txs).receipts)

-- the transaction at a place
pub tx_at : (txs : List Tx) (r : ℕ) → r < length txs → (tx : Tx) × (slice_get txs r ≡ Some tx)
tx_at [] r h = absurd (omega arith)
tx_at (t ∷ txs) zero h = (t, refl)
tx_at (t ∷ txs) (suc r) h = tx_at txs r (omega arith)

-- a journal's ledger
pub record Kept (typed : Typed) (watches : List Watch) (txs : List Tx) (journal : List ℕ) (offs : List Off) (l : Ledger) : Type 0 where
  pub ledger : l ≡ watched_serial typed watches offs (along txs journal)
  pub receipts : length l.receipts ≡ length journal
  pub each : length (along txs journal) ≡ length journal
  pub within : Each (λ off. off.after ≤ length journal) offs

pub kept_first : (typed : Typed) (watches : List Watch) (txs : List Tx) → Kept typed watches txs [] [] (initial_ledger typed watches)
unfolding watched_serial_from without_offs
kept_first typed watches txs = record { ledger = refl; receipts = refl; each = refl; within = tt }

pub kept_placed : (typed : Typed) (watches : List Watch) (txs : List Tx) (journal : List ℕ) (offs : List Off) (l : Ledger) (r : ℕ) → Kept typed watches txs journal offs l → r < length txs → Kept typed watches txs (journal ++ r ∷ []) offs (option_map_or (λ tx. ledger_after typed tx l) (slice_get txs r) l)
kept_placed typed watches txs journal offs l r k inside =
    let t = tx_at txs r inside in
    let more : along txs (journal ++ r ∷ []) ≡ along txs journal ++ t.0 ∷ [] = filter_map-append (λ p. slice_get txs p) journal (r ∷ []) ∙ ap (λ x. along txs journal ++ cons_option x []) t.1 in
    let is : option_map_or (λ tx. ledger_after typed tx l) (slice_get txs r) l ≡ ledger_after typed t.0 l = ap (λ x. option_map_or (λ tx. ledger_after typed tx l) x l) t.1 in
    let longer = length_after typed t.0 l in
    record {
      ledger = is ∙ ap (ledger_after typed t.0) k.ledger ∙ sym (watched_place typed offs (initial_ledger typed watches) (along txs journal) t.0 (Each_weaker _ _ offs (λ off e. omega (arith, e, k.each)) k.within)) ∙ ap (watched_serial typed watches offs) (sym more);
      receipts = ap (λ (m : Ledger). length m.receipts) is ∙ omega (arith, longer, k.receipts, length_push journal r);
      each = ap (λ xs. length xs) more ∙ omega (arith, length_push (along txs journal) t.0, length_push journal r, k.each);
      within = Each_weaker _ _ offs (λ off e. omega (arith, e, length_push journal r)) k.within;
    }

pub kept_off : (typed : Typed) (watches : List Watch) (txs : List Tx) (journal : List ℕ) (offs : List Off) (l : Ledger) (k : ℕ) → Kept typed watches txs journal offs l → Kept typed watches txs journal (offs ++ record { after = length journal; watch = k } ∷ []) (record l { watches = without_watch k l.watches })
kept_off typed watches txs journal offs l k h = record {
  ledger = ap (λ (m : Ledger). record m { watches = without_watch k m.watches }) h.ledger ∙ sym (watched_off typed offs (initial_ledger typed watches) (along txs journal) (length journal) k (omega (arith, h.each)));
  receipts = h.receipts;
  each = h.each;
  within = Each_more _ offs (record { after = length journal; watch = k }) h.within (omega arith);
}
