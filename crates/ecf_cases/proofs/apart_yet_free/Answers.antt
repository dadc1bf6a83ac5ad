use Rattle.std.proofs.Common.{◌≡◌, ℕ, [], ◌∷◌, refl, ap, ◌∙◌, arith}
use Rattle.ecf_cases.specs.ApartYetFree.{apart_yet_free, go, go_result, EarlierSwapHelps, IsCommitted, LaterSwapHelps, NotTogether, StepsApart, StepsApproved, StoreChanges, SwapsHelp}
use Rattle.ecf_cases.specs.Computation.{run_is, contracts, Objects}
use Rattle.ecf_cases.specs.OutcomeLemmas.{receipt_from_run, store_from_run, swaps_help_from, not_together_from}
use Rattle.ecf_lang.specs.Part.{pay, read_cell, write_cell, attempt_of}
use Rattle.ecf_verdicts.specs.Computing.{computing}
use Rattle.ecf_verdicts.specs.Free.{IsTogether}
use Rattle.ecf_verdicts.specs.Laws.{ApprovesFree}
use Rattle.ecf_verdicts.specs.Receipts.{receipt_of_answer, store_after}
use Rattle.ecf_verdicts.specs.Traces.{trace}
use Rattle.ecf_verdicts.specs.Words.{order}
use Rattle.ecf_cases.proofs.apart_yet_free.Goals as goal

built : Objects apart_yet_free.objects
built = search contracts depth 40 fits 4000

steps_apart : StepsApart
unfolding built pay read_cell write_cell attempt_of
steps_apart = run_is apart_yet_free built [] go

steps_approved : StepsApproved
unfolding computing
steps_approved = refl

is_committed : IsCommitted
is_committed = receipt_from_run apart_yet_free [] go go_result steps_apart ∙ ap (receipt_of_answer 0 50) steps_approved

store_changes : StoreChanges
store_changes = store_from_run apart_yet_free [] go go_result steps_apart ∙ ap (λ v. store_after (receipt_of_answer 0 50 v) [] go_result.store) steps_approved

apart : IsTogether (trace go_result.steps 0) → ⊥
unfolding trace
apart together =
    let same : ◌≡◌ {A = ℕ} 2 0 = together.between 0 1 2 (omega arith) (omega arith) (omega arith) refl in
    omega arith

stays_apart : NotTogether
stays_apart = not_together_from apart_yet_free [] go go_result steps_apart 0 apart

swaps_help : ApprovesFree → SwapsHelp
swaps_help law = swaps_help_from apart_yet_free [] go go_result steps_apart law (order 0 (0 ∷ 2 ∷ []) ∷ []) steps_approved 0

later_swap_helps : LaterSwapHelps
unfolding computing
later_swap_helps = refl

earlier_swap_helps : EarlierSwapHelps
unfolding computing
earlier_swap_helps = refl

pub returns : goal.returns
returns c = record {
  steps_apart = steps_apart;
  steps_approved = steps_approved;
  is_committed = is_committed;
  store_changes = store_changes;
  not_together = stays_apart;
  swaps_help = swaps_help c.approves_free.ensures;
  later_swap_helps = later_swap_helps;
  earlier_swap_helps = earlier_swap_helps;
}
