use Rattle.std.proofs.Common.{refl, ap, ◌∙◌}
use Rattle.ecf_cases.specs.BankClearsFirst.{bank_clears_first, withdraw, withdraw_result, PaysOnce, StepsApproved, StoreChanges, WithdrawalCommitted}
use Rattle.ecf_cases.specs.Computation.{run_is, contracts, Objects}
use Rattle.ecf_cases.specs.OutcomeLemmas.{receipt_from_run, store_from_run}
use Rattle.ecf_lang.specs.Genesis.{genesis}
use Rattle.ecf_lang.specs.Part.{pay, read_cell, write_cell, attempt_of}
use Rattle.ecf_verdicts.specs.Computing.{computing}
use Rattle.ecf_verdicts.specs.Receipts.{receipt_of_answer, store_after}
use Rattle.ecf_cases.proofs.bank_clears_first.Goals as goal

built : Objects bank_clears_first.objects
built = search contracts depth 40 fits 4000

pays_once : PaysOnce
unfolding built pay read_cell write_cell attempt_of
pays_once = run_is bank_clears_first built (genesis bank_clears_first) withdraw

steps_approved : StepsApproved
unfolding computing
steps_approved = refl

withdrawal_committed : WithdrawalCommitted
withdrawal_committed = receipt_from_run bank_clears_first (genesis bank_clears_first) withdraw withdraw_result pays_once ∙ ap (receipt_of_answer 5 136) steps_approved

store_changes : StoreChanges
store_changes = store_from_run bank_clears_first (genesis bank_clears_first) withdraw withdraw_result pays_once ∙ ap (λ v. store_after (receipt_of_answer 5 136 v) (genesis bank_clears_first) withdraw_result.store) steps_approved

pub returns : goal.returns
returns c = record {
  pays_once = pays_once;
  steps_approved = steps_approved;
  withdrawal_committed = withdrawal_committed;
  store_changes = store_changes;
}
