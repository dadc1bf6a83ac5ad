-- Drafts and what is judged of them.
use Rattle.std.proofs.Common.{◌≡◌, refl, ap, ◌∙◌}
use Rattle.ecf_lang.specs.declared.receipt.Receipt.{Receipt}
use Rattle.ecf_lang.specs.declared.receipt.Receipt.TheVariants as receipt
use Rattle.ecf_lang.specs.declared.run.Run.{Run}
use Rattle.ecf_lang.specs.declared.tx.Tx.{Tx}
use Rattle.ecf_lang.specs.declared.typed.Typed.{Typed}
use Rattle.ecf_lang.specs.Draft.{IsRunOn}
use Rattle.ecf_lang.specs.Meaning.{run}
use Rattle.ecf_lang.specs.Store.{Store, Cells, with_writes}
use Rattle.ecf_laws.specs.Laws.{RunStands, SameReadsSameRun}
use Rattle.ecf_verdicts.specs.Receipts.{receipt_of, receipt_on, store_after, next_store}
use Rattle.ecf_verdicts.specs.SerialLaws.{IsCommitted}
use Rattle.ecf_core.specs.Drafted.{committed_writes, RunIsDrafted, DraftIsJudged}

pub run_is_drafted : RunStands → SameReadsSameRun → RunIsDrafted
run_is_drafted stands same typed store tx fits = record {
  fits = fits;
  stands = stands typed store tx;
  same = λ other is agrees. (let e = same typed store other tx agrees in record { reads = ap (λ (k : Run). k.reads) e; writes = ap (λ (k : Run). k.writes) e });
}

receipt_is : (typed : Typed) (tx : Tx) (kept : Run) (store : Store) → IsRunOn typed tx kept store → receipt_on typed store tx ≡ receipt_of kept.outcome kept.fuel kept.steps
unfolding receipt_on
receipt_is typed tx kept store h = λ i. receipt_of (h.outcome i) (h.fuel i) (h.steps i)

left_by : (r : Receipt) (before after : Store) (writes : Cells) → after ≡ with_writes before writes → store_after r before after ≡ with_writes before (committed_writes r writes)
left_by (receipt.Committed answer fuel orders) before after writes e = e
left_by (receipt.Reverted cause fuel) before after writes e = refl
left_by (receipt.OutOfFuel fuel) before after writes e = refl
left_by (receipt.Vetoed object at cycle fuel) before after writes e = refl
left_by (receipt.Barred watch fuel) before after writes e = refl

written_by : (r : Receipt) (found writes : Cells) → found ≡ writes → IsCommitted r → found ≡ committed_writes r writes
written_by (receipt.Committed answer fuel orders) found writes e h = e
written_by (receipt.Reverted cause fuel) found writes e h = absurd h
written_by (receipt.OutOfFuel fuel) found writes e h = absurd h
written_by (receipt.Vetoed object at cycle fuel) found writes e h = absurd h
written_by (receipt.Barred watch fuel) found writes e h = absurd h

leaves : (typed : Typed) (tx : Tx) (kept : Run) (store : Store) → IsRunOn typed tx kept store → next_store typed store tx ≡ with_writes store (committed_writes (receipt_of kept.outcome kept.fuel kept.steps) kept.writes)
unfolding next_store
leaves typed tx kept store h =
    ap (λ r. store_after r store (run typed store tx).store) (receipt_is typed tx kept store h)
    ∙ left_by (receipt_of kept.outcome kept.fuel kept.steps) store (run typed store tx).store kept.writes h.ends

pub draft_is_judged : DraftIsJudged
draft_is_judged typed tx kept drafted = record {
  fits = drafted.fits;
  right = λ store is agrees. (let h = drafted.stands store is agrees in record {
    receipt = receipt_is typed tx kept store h;
    leaves = leaves typed tx kept store h;
    writes = written_by (receipt_of kept.outcome kept.fuel kept.steps) (run typed store tx).writes kept.writes (drafted.same store is agrees).writes;
  });
}
