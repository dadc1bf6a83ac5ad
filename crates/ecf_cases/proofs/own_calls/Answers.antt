use Rattle.std.proofs.Common.{[], ◌∷◌, refl, ap, ◌∙◌}
use Rattle.ecf_cases.specs.Computation.{run_is, contracts, Objects}
use Rattle.ecf_cases.specs.OutcomeLemmas.{receipt_from_run, store_from_run, no_swaps_from}
use Rattle.ecf_cases.specs.OwnCalls.{out, out_result, own, own_calls, own_result, CallsItself, NoSwapsHelp, OutChangesNothing, OutStepsVetoed, OutVetoed, OwnApproved, OwnChanges, OwnCommitted, StaysInside}
use Rattle.ecf_lang.specs.Part.{pay, read_cell, write_cell, attempt_of}
use Rattle.ecf_verdicts.specs.Computing.{computing}
use Rattle.ecf_verdicts.specs.Laws.{VetoesLeast}
use Rattle.ecf_verdicts.specs.Receipts.{receipt_of_answer, store_after}
use Rattle.ecf_cases.proofs.own_calls.Goals as goal

built : Objects own_calls.objects
built = search contracts depth 40 fits 4000

stays_inside : StaysInside
unfolding built pay read_cell write_cell attempt_of
stays_inside = run_is own_calls built [] own

own_approved : OwnApproved
unfolding computing
own_approved = refl

own_committed : OwnCommitted
own_committed = receipt_from_run own_calls [] own own_result stays_inside ∙ ap (receipt_of_answer 3 39) own_approved

own_changes : OwnChanges
own_changes = store_from_run own_calls [] own own_result stays_inside ∙ ap (λ v. store_after (receipt_of_answer 3 39 v) [] own_result.store) own_approved

calls_itself : CallsItself
unfolding built pay read_cell write_cell attempt_of
calls_itself = run_is own_calls built [] out

out_steps_vetoed : OutStepsVetoed
unfolding computing
out_steps_vetoed = refl

out_vetoed : OutVetoed
out_vetoed = receipt_from_run own_calls [] out out_result calls_itself ∙ ap (receipt_of_answer 3 47) out_steps_vetoed

out_changes_nothing : OutChangesNothing
out_changes_nothing = store_from_run own_calls [] out out_result calls_itself ∙ ap (λ v. store_after (receipt_of_answer 3 47 v) [] out_result.store) out_steps_vetoed

no_swaps_help : VetoesLeast → NoSwapsHelp
no_swaps_help law = no_swaps_from own_calls [] out out_result calls_itself law 0 5 (0 ∷ 1 ∷ []) out_steps_vetoed

pub returns : goal.returns
returns c = record {
  stays_inside = stays_inside;
  own_approved = own_approved;
  own_committed = own_committed;
  own_changes = own_changes;
  calls_itself = calls_itself;
  out_steps_vetoed = out_steps_vetoed;
  out_vetoed = out_vetoed;
  out_changes_nothing = out_changes_nothing;
  no_swaps_help = no_swaps_help c.vetoes_least.ensures;
}
