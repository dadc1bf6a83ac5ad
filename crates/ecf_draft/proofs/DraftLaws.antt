-- What is drafted and judged, by the laws of kept runs.
use Rattle.std.proofs.Common.{◌≡◌, [], sym, subst}
use Rattle.std.specs.Arc.{arc_value}
use Rattle.std.specs.List.Sorted.{IsStrictlySortedBy}
use Rattle.ecf_core.specs.Drafted.{IsRightOn, RunIsDrafted, DraftIsJudged, committed_writes}
use Rattle.ecf_draft.specs.declared.drafts.Work.{Work}
use Rattle.ecf_draft.specs.declared.judging.Decision.{Decision}
use Rattle.ecf_draft.specs.Drafts.{DraftedWork, JudgedWork, IsDraftedUnder, IsJudgedUnder, decision_of, judged, judgement_in}
use Rattle.ecf_lang.specs.declared.receipt.Receipt.{Receipt}
use Rattle.ecf_lang.specs.declared.receipt.Receipt.TheVariants as receipt
use Rattle.ecf_lang.specs.declared.run.Run.{Run}
use Rattle.ecf_lang.specs.declared.tx.Tx.{Tx}
use Rattle.ecf_lang.specs.declared.typed.Typed.{Typed}
use Rattle.ecf_lang.specs.Fits.{Fits}
use Rattle.ecf_lang.specs.Meaning.{run, kept_run}
use Rattle.ecf_lang.specs.Store.{Store, Cells, IsStore, IsRising}
use Rattle.ecf_laws.specs.Laws.{ReadsAreStored, WritesRise}
use Rattle.ecf_verdicts.specs.Receipts.{receipt_of}

-- a draft of a transaction that fits is drafted under the contract
pub is_drafted : RunIsDrafted → (typed : Typed) (work kept_work : Work) (kept : Run) → Fits typed (arc_value work.tx) →
    kept_work ≡ work → kept ≡ kept_run (run typed work.snapshot (arc_value work.tx)) →
    IsDraftedUnder typed (record { work = kept_work; run = kept })
is_drafted law typed work kept_work kept fits same is =
    subst (λ (d : DraftedWork). IsDraftedUnder typed d) (λ i. record { work = sym same i; run = sym is i })
    (law typed work.snapshot (arc_value work.tx) fits)

-- what is judged of a draft is drafted under each contract that the draft was
pub is_judged : DraftIsJudged → (d : DraftedWork) (j : JudgedWork) → j ≡ judged d →
    (typed : Typed) → IsDraftedUnder typed d → IsJudgedUnder typed j
is_judged law d j is typed h = subst (IsJudgedUnder typed) (sym is) (law typed (arc_value d.work.tx) d.run h)

-- a decision on a transaction's run is right on the store that it ran on
pub is_right : RunIsDrafted → DraftIsJudged → ReadsAreStored → (typed : Typed) (store : Store) (tx : Tx) (d : Decision) →
    IsStore store → Fits typed tx → d ≡ decision_of (kept_run (run typed store tx)) →
    IsRightOn typed (judgement_in tx d) store
is_right drafts judges stored typed store tx d is_store fits is =
    subst (λ e. IsRightOn typed (judgement_in tx e) store) (sym is)
    ((judges typed tx (kept_run (run typed store tx)) (drafts typed store tx fits)).right store is_store (stored typed store tx))

nothing_rises : IsRising []
unfolding IsStrictlySortedBy
nothing_rises = tt

committed_rise : (r : Receipt) (writes : Cells) → IsRising writes → IsRising (committed_writes r writes)
committed_rise (receipt.Committed answer fuel orders) writes h = h
committed_rise (receipt.Reverted cause fuel) writes h = nothing_rises
committed_rise (receipt.OutOfFuel fuel) writes h = nothing_rises
committed_rise (receipt.Vetoed object at cycle fuel) writes h = nothing_rises
committed_rise (receipt.Barred watch fuel) writes h = nothing_rises

-- what is written of a decision on a transaction's run rises by cell
pub is_rising : WritesRise → (typed : Typed) (store : Store) (tx : Tx) (d : Decision) →
    d ≡ decision_of (kept_run (run typed store tx)) → IsRising d.writes
is_rising law typed store tx d is =
    let kept : Run = kept_run (run typed store tx) in
    subst (λ (e : Decision). IsRising e.writes) (sym is)
    (committed_rise (receipt_of kept.outcome kept.fuel kept.steps) kept.writes (law typed store tx))
