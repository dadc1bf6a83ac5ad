use Rattle.std.proofs.Common.{[], refl, ap, ◌∙◌}
use Rattle.ecf_cases.specs.CaughtRevert.{caught_revert, go, go_result, go_with_20, CatchesRevert, IsCommitted, StepsApproved, StoreChanges, WantOfFuelPasses}
use Rattle.ecf_cases.specs.Computation.{run_is, contracts, Objects}
use Rattle.ecf_cases.specs.OutcomeLemmas.{receipt_from_run, store_from_run}
use Rattle.ecf_lang.specs.Part.{pay, read_cell, write_cell, attempt_of}
use Rattle.ecf_verdicts.specs.Computing.{computing}
use Rattle.ecf_verdicts.specs.Receipts.{receipt_of_answer, store_after}
use Rattle.ecf_cases.proofs.caught_revert.Goals as goal

built : Objects caught_revert.objects
built = search contracts depth 40 fits 4000

catches_revert : CatchesRevert
unfolding built pay read_cell write_cell attempt_of
catches_revert = run_is caught_revert built [] go

lets_want_of_fuel_through : WantOfFuelPasses
unfolding built pay read_cell write_cell attempt_of
lets_want_of_fuel_through = run_is caught_revert built [] go_with_20

steps_approved : StepsApproved
unfolding computing
steps_approved = refl

is_committed : IsCommitted
is_committed = receipt_from_run caught_revert [] go go_result catches_revert ∙ ap (receipt_of_answer 1 33) steps_approved

store_changes : StoreChanges
store_changes = store_from_run caught_revert [] go go_result catches_revert ∙ ap (λ v. store_after (receipt_of_answer 1 33 v) [] go_result.store) steps_approved

pub returns : goal.returns
returns c = record {
  catches_revert = catches_revert;
  lets_want_of_fuel_through = lets_want_of_fuel_through;
  steps_approved = steps_approved;
  is_committed = is_committed;
  store_changes = store_changes;
}
