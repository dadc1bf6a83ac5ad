use Rattle.std.proofs.Common.{[], refl, ap, ◌∙◌}
use Rattle.ecf_cases.specs.CallbackFirst.{callback_first, go, go_result, ComesFirst, IsCommitted, StepsApproved, StoreChanges}
use Rattle.ecf_cases.specs.Computation.{run_is, contracts, Objects}
use Rattle.ecf_cases.specs.OutcomeLemmas.{receipt_from_run, store_from_run}
use Rattle.ecf_lang.specs.Part.{pay, read_cell, write_cell, attempt_of}
use Rattle.ecf_verdicts.specs.Computing.{computing}
use Rattle.ecf_verdicts.specs.Receipts.{receipt_of_answer, store_after}
use Rattle.ecf_cases.proofs.callback_first.Goals as goal

built : Objects callback_first.objects
built = search contracts depth 40 fits 4000

comes_first : ComesFirst
unfolding built pay read_cell write_cell attempt_of
comes_first = run_is callback_first built [] go

steps_approved : StepsApproved
unfolding computing
steps_approved = refl

is_committed : IsCommitted
is_committed = receipt_from_run callback_first [] go go_result comes_first ∙ ap (receipt_of_answer 11 50) steps_approved

store_changes : StoreChanges
store_changes = store_from_run callback_first [] go go_result comes_first ∙ ap (λ v. store_after (receipt_of_answer 11 50 v) [] go_result.store) steps_approved

pub returns : goal.returns
returns c = record {
  comes_first = comes_first;
  steps_approved = steps_approved;
  is_committed = is_committed;
  store_changes = store_changes;
}
