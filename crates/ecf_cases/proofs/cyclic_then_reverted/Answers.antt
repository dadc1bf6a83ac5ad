use Rattle.std.proofs.Common.{[], ◌∷◌, refl}
use Rattle.ecf_cases.specs.Computation.{run_is, contracts, Objects}
use Rattle.ecf_cases.specs.CyclicThenReverted.{cyclic_then_reverted, go, go_result, IsReverted, NoSwapsHelp, RevertsAtLast, StepsVetoed, StoreStays}
use Rattle.ecf_cases.specs.OutcomeLemmas.{receipt_from_run, store_from_run, no_swaps_from}
use Rattle.ecf_lang.specs.Part.{pay, read_cell, write_cell, attempt_of}
use Rattle.ecf_verdicts.specs.Computing.{computing}
use Rattle.ecf_verdicts.specs.Laws.{VetoesLeast}
use Rattle.ecf_cases.proofs.cyclic_then_reverted.Goals as goal

built : Objects cyclic_then_reverted.objects
built = search contracts depth 40 fits 4000

reverts_at_last : RevertsAtLast
unfolding built pay read_cell write_cell attempt_of
reverts_at_last = run_is cyclic_then_reverted built [] go

steps_vetoed : StepsVetoed
unfolding computing
steps_vetoed = refl

is_reverted : IsReverted
is_reverted = receipt_from_run cyclic_then_reverted [] go go_result reverts_at_last

store_stays : StoreStays
store_stays = store_from_run cyclic_then_reverted [] go go_result reverts_at_last

no_swaps_help : VetoesLeast → NoSwapsHelp
no_swaps_help law = no_swaps_from cyclic_then_reverted [] go go_result reverts_at_last law 0 4 (0 ∷ 2 ∷ []) steps_vetoed

pub returns : goal.returns
returns c = record {
  reverts_at_last = reverts_at_last;
  steps_vetoed = steps_vetoed;
  is_reverted = is_reverted;
  store_stays = store_stays;
  no_swaps_help = no_swaps_help c.vetoes_least.ensures;
}
