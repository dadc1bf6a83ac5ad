-- Receipts and serial runs.
use Rattle.std.proofs.Common.{◌≡◌, ℕ, suc, List, [], ◌∷◌, ◌++◌, refl, sym, ap, ◌∙◌, subst}
use Rattle.ecf_lang.specs.declared.receipt.Receipt.{Receipt}
use Rattle.ecf_lang.specs.declared.receipt.Receipt.TheVariants as receipt
use Rattle.ecf_lang.specs.declared.run.Outcome.{Outcome}
use Rattle.ecf_lang.specs.declared.run.Outcome.TheVariants as outcome
use Rattle.ecf_lang.specs.declared.run.Step.{Step}
use Rattle.ecf_lang.specs.declared.tx.Tx.{Tx}
use Rattle.ecf_lang.specs.declared.typed.Typed.{Typed}
use Rattle.ecf_lang.specs.Genesis.{genesis}
use Rattle.ecf_lang.specs.Meaning.{run}
use Rattle.ecf_lang.specs.Store.{Store}
use Rattle.ecf_verdicts.specs.Free.{Free}
use Rattle.ecf_verdicts.specs.Laws.{IsVeto}
use Rattle.ecf_verdicts.specs.ListLemmas.{Each, All_from_Each}
use Rattle.ecf_verdicts.specs.Receipts.{Serial, receipt_of_answer, receipt_of, store_after, next_store, receipt_on, serial, serial_from}
use Rattle.ecf_verdicts.specs.SerialLaws.{IsAnswer, IsVetoed, IsCommitted, IsBarred, BarredChangesNothing, SerialNeverBars, VetoedWhereNotFree, CommitKeepsEnd, OnlyCommitChanges, CommittedWhereFree, SerialBegins, SerialAddsOne, SerialGoesOn, ReceiptEach}
use Rattle.ecf_verdicts.specs.Traces.{trace}
use Rattle.ecf_verdicts.specs.Verdicts.{Verdict, Approved, Vetoed, verdict}
use Rattle.ecf_verdicts.proofs.VerdictLaws.{vetoed_exactly_where, approves_free}

veto_kept : (value fuel : ℕ) (v : Verdict) → (IsVetoed (receipt_of_answer value fuel v) → IsVeto v) × (IsVeto v → IsVetoed (receipt_of_answer value fuel v))
veto_kept value fuel (Approved orders) = (λ h. h, λ h. h)
veto_kept value fuel (Vetoed o n c) = (λ h. h, λ h. h)

veto_of : (o : Outcome) (fuel : ℕ) (steps : List Step) → (IsVetoed (receipt_of o fuel steps) → IsAnswer o × ((p : ℕ) × (Free (trace steps p) → ⊥))) × (IsAnswer o × ((p : ℕ) × (Free (trace steps p) → ⊥)) → IsVetoed (receipt_of o fuel steps))
veto_of (outcome.Answer value) fuel steps =
    let both = veto_kept value fuel (verdict steps) in
    let law = vetoed_exactly_where steps in
    (λ h. (tt, law.0 (both.0 h)), λ h. both.1 (law.1 h.1))
veto_of (outcome.Reverted cause) fuel steps = (λ h. absurd h, λ h. h.0)
veto_of outcome.OutOfFuel fuel steps = (λ h. absurd h, λ h. h.0)

pub vetoed_where_not_free : VetoedWhereNotFree
unfolding receipt_on
vetoed_where_not_free typed store tx = let r = veto_of (run typed store tx).outcome (run typed store tx).fuel (run typed store tx).steps in (r.0, r.1)

pub serial_goes_on : SerialGoesOn
unfolding serial_from
serial_goes_on typed store [] more = refl
serial_goes_on typed store (tx ∷ txs) more = ap (λ (s : Serial). record { receipts = receipt_on typed store tx ∷ s.receipts; store = s.store }) (serial_goes_on typed (next_store typed store tx) txs more)

pub receipt_each : ReceiptEach
unfolding serial_from
receipt_each typed store [] = refl
receipt_each typed store (tx ∷ txs) = ap suc (receipt_each typed (next_store typed store tx) txs)

kept_committed : (r : Receipt) (before after : Store) → IsCommitted r → store_after r before after ≡ after
kept_committed (receipt.Committed answer fuel orders) before after h = refl
kept_committed (receipt.Reverted cause fuel) before after h = absurd h
kept_committed (receipt.OutOfFuel fuel) before after h = absurd h
kept_committed (receipt.Vetoed object at cycle fuel) before after h = absurd h
kept_committed (receipt.Barred watch fuel) before after h = absurd h

kept_other : (r : Receipt) (before after : Store) → (IsCommitted r → ⊥) → store_after r before after ≡ before
kept_other (receipt.Committed answer fuel orders) before after h = absurd (h tt)
kept_other (receipt.Reverted cause fuel) before after h = refl
kept_other (receipt.OutOfFuel fuel) before after h = refl
kept_other (receipt.Vetoed object at cycle fuel) before after h = refl
kept_other (receipt.Barred watch fuel) before after h = refl

pub barred_changes_nothing : BarredChangesNothing
barred_changes_nothing (receipt.Committed answer fuel orders) h = absurd h
barred_changes_nothing (receipt.Reverted cause fuel) h = absurd h
barred_changes_nothing (receipt.OutOfFuel fuel) h = absurd h
barred_changes_nothing (receipt.Vetoed object at cycle fuel) h = absurd h
barred_changes_nothing (receipt.Barred watch fuel) h = (λ c. c, λ v. v, λ before after. refl)

answer_unbarred : (value fuel : ℕ) (v : Verdict) → IsBarred (receipt_of_answer value fuel v) → ⊥
answer_unbarred value fuel (Approved orders) h = h
answer_unbarred value fuel (Vetoed o n c) h = h

run_unbarred : (o : Outcome) (fuel : ℕ) (steps : List Step) → IsBarred (receipt_of o fuel steps) → ⊥
run_unbarred (outcome.Answer value) fuel steps h = answer_unbarred value fuel (verdict steps) h
run_unbarred (outcome.Reverted cause) fuel steps h = h
run_unbarred outcome.OutOfFuel fuel steps h = h

one_unbarred : (typed : Typed) (store : Store) (tx : Tx) → IsBarred (receipt_on typed store tx) → ⊥
unfolding receipt_on
one_unbarred typed store tx = run_unbarred (run typed store tx).outcome (run typed store tx).fuel (run typed store tx).steps

each_unbarred : (typed : Typed) (store : Store) (txs : List Tx) → Each (λ r. IsBarred r → ⊥) (serial_from typed store txs).receipts
unfolding serial_from
each_unbarred typed store [] = tt
each_unbarred typed store (tx ∷ txs) = (one_unbarred typed store tx, each_unbarred typed (next_store typed store tx) txs)

pub serial_never_bars : SerialNeverBars
serial_never_bars typed store txs = All_from_Each (λ r. IsBarred r → ⊥) (serial_from typed store txs).receipts (each_unbarred typed store txs)

pub commit_keeps_end : CommitKeepsEnd
unfolding next_store
commit_keeps_end typed store tx h = kept_committed (receipt_on typed store tx) store (run typed store tx).store h

pub only_commit_changes : OnlyCommitChanges
unfolding next_store
only_commit_changes typed store tx h = kept_other (receipt_on typed store tx) store (run typed store tx).store h

commit_of_verdict : (value fuel : ℕ) (steps : List Step) (v : Verdict) → verdict steps ≡ v → (IsCommitted (receipt_of_answer value fuel v) → (o : ℕ) → Free (trace steps o)) × (((o : ℕ) → Free (trace steps o)) → IsCommitted (receipt_of_answer value fuel v))
commit_of_verdict value fuel steps (Approved orders) e = (λ h. approves_free steps orders e, λ h. tt)
commit_of_verdict value fuel steps (Vetoed o n c) e = (λ h. absurd h, λ h. (let w = (vetoed_exactly_where steps).0 (subst IsVeto (sym e) tt) in w.1 (h w.0)))

commit_of : (o : Outcome) (fuel : ℕ) (steps : List Step) → (IsCommitted (receipt_of o fuel steps) → IsAnswer o × ((p : ℕ) → Free (trace steps p))) × (IsAnswer o × ((p : ℕ) → Free (trace steps p)) → IsCommitted (receipt_of o fuel steps))
commit_of (outcome.Answer value) fuel steps = let both = commit_of_verdict value fuel steps (verdict steps) refl in (λ h. (tt, both.0 h), λ h. both.1 h.1)
commit_of (outcome.Reverted cause) fuel steps = (λ h. absurd h, λ h. h.0)
commit_of outcome.OutOfFuel fuel steps = (λ h. absurd h, λ h. h.0)

pub committed_where_free : CommittedWhereFree
unfolding receipt_on
committed_where_free typed store tx = let r = commit_of (run typed store tx).outcome (run typed store tx).fuel (run typed store tx).steps in (r.0, r.1)

pub serial_begins : SerialBegins
unfolding serial_from
serial_begins typed = refl

one : (typed : Typed) (store : Store) (tx : Tx) → serial_from typed store (tx ∷ []) ≡ record { receipts = receipt_on typed store tx ∷ []; store = next_store typed store tx }
unfolding serial_from
one typed store tx = refl

pub serial_adds_one : SerialAddsOne
serial_adds_one typed txs tx =
    let first = serial typed txs in
    serial_goes_on typed (genesis typed) txs (tx ∷ []) ∙ ap (λ (s : Serial). record { receipts = first.receipts ++ s.receipts; store = s.store }) (one typed first.store tx)
