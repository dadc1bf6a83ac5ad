use Rattle.std.proofs.Common.{[], ◌∷◌, refl, ap, ◌∙◌}
use Rattle.ecf_cases.specs.Computation.{run_is, contracts, Objects}
use Rattle.ecf_cases.specs.CycleOfThree.{cycle_of_three, go, go_result, GoesAround, IsVetoed, NoSwapsHelp, StepsVetoed, StoreStays}
use Rattle.ecf_cases.specs.OutcomeLemmas.{receipt_from_run, store_from_run, no_swaps_from}
use Rattle.ecf_lang.specs.Part.{pay, read_cell, write_cell, attempt_of}
use Rattle.ecf_verdicts.specs.Computing.{computing}
use Rattle.ecf_verdicts.specs.Laws.{VetoesLeast}
use Rattle.ecf_verdicts.specs.Receipts.{receipt_of_answer, store_after}
use Rattle.ecf_cases.proofs.cycle_of_three.Goals as goal

built : Objects cycle_of_three.objects
built = search contracts depth 40 fits 4000

goes_around : GoesAround
unfolding built pay read_cell write_cell attempt_of
goes_around = run_is cycle_of_three built [] go

steps_vetoed : StepsVetoed
unfolding computing
steps_vetoed = refl

is_vetoed : IsVetoed
is_vetoed = receipt_from_run cycle_of_three [] go go_result goes_around ∙ ap (receipt_of_answer 1 86) steps_vetoed

store_stays : StoreStays
store_stays = store_from_run cycle_of_three [] go go_result goes_around ∙ ap (λ v. store_after (receipt_of_answer 1 86 v) [] go_result.store) steps_vetoed

no_swaps_help : VetoesLeast → NoSwapsHelp
no_swaps_help law = no_swaps_from cycle_of_three [] go go_result goes_around law 0 6 (0 ∷ 2 ∷ 4 ∷ []) steps_vetoed

pub returns : goal.returns
returns c = record {
  goes_around = goes_around;
  steps_vetoed = steps_vetoed;
  is_vetoed = is_vetoed;
  store_stays = store_stays;
  no_swaps_help = no_swaps_help c.vetoes_least.ensures;
}
