use Rattle.std.proofs.Common.{[], ◌∷◌, refl, ap, ◌∙◌}
use Rattle.ecf_cases.specs.Computation.{run_is, contracts, Objects}
use Rattle.ecf_cases.specs.EqualValues.{equal_values, go, go_result, IsVetoed, NoSwapsHelp, StepsVetoed, StoreStays, WritesTheSame}
use Rattle.ecf_cases.specs.OutcomeLemmas.{receipt_from_run, store_from_run, no_swaps_from}
use Rattle.ecf_lang.specs.Part.{pay, read_cell, write_cell, attempt_of}
use Rattle.ecf_verdicts.specs.Computing.{computing}
use Rattle.ecf_verdicts.specs.Laws.{VetoesLeast}
use Rattle.ecf_verdicts.specs.Receipts.{receipt_of_answer, store_after}
use Rattle.ecf_cases.proofs.equal_values.Goals as goal

built : Objects equal_values.objects
built = search contracts depth 40 fits 4000

writes_the_same : WritesTheSame
unfolding built pay read_cell write_cell attempt_of
writes_the_same = run_is equal_values built [] go

steps_vetoed : StepsVetoed
unfolding computing
steps_vetoed = refl

is_vetoed : IsVetoed
is_vetoed = receipt_from_run equal_values [] go go_result writes_the_same ∙ ap (receipt_of_answer 0 50) steps_vetoed

store_stays : StoreStays
store_stays = store_from_run equal_values [] go go_result writes_the_same ∙ ap (λ v. store_after (receipt_of_answer 0 50 v) [] go_result.store) steps_vetoed

no_swaps_help : VetoesLeast → NoSwapsHelp
no_swaps_help law = no_swaps_from equal_values [] go go_result writes_the_same law 0 3 (0 ∷ 2 ∷ []) steps_vetoed

pub returns : goal.returns
returns c = record {
  writes_the_same = writes_the_same;
  steps_vetoed = steps_vetoed;
  is_vetoed = is_vetoed;
  store_stays = store_stays;
  no_swaps_help = no_swaps_help c.vetoes_least.ensures;
}
