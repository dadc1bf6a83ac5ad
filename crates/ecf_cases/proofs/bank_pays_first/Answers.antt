use Rattle.std.proofs.Common.{[], ◌∷◌, refl, ap, ◌∙◌}
use Rattle.ecf_cases.specs.BankPaysFirst.{bank_pays_first, withdraw, withdraw_result, NoSwapsHelp, PaysTwice, StepsVetoed, StoreStays, WithdrawalVetoed}
use Rattle.ecf_cases.specs.Computation.{run_is, contracts, Objects}
use Rattle.ecf_cases.specs.OutcomeLemmas.{receipt_from_run, store_from_run, no_swaps_from}
use Rattle.ecf_lang.specs.Genesis.{genesis}
use Rattle.ecf_lang.specs.Part.{pay, read_cell, write_cell, attempt_of}
use Rattle.ecf_verdicts.specs.Computing.{computing}
use Rattle.ecf_verdicts.specs.Laws.{VetoesLeast}
use Rattle.ecf_verdicts.specs.Receipts.{receipt_of_answer, store_after}
use Rattle.ecf_cases.proofs.bank_pays_first.Goals as goal

built : Objects bank_pays_first.objects
built = search contracts depth 40 fits 4000

pays_twice : PaysTwice
unfolding built pay read_cell write_cell attempt_of
pays_twice = run_is bank_pays_first built (genesis bank_pays_first) withdraw

steps_vetoed : StepsVetoed
unfolding computing
steps_vetoed = refl

withdrawal_vetoed : WithdrawalVetoed
withdrawal_vetoed = receipt_from_run bank_pays_first (genesis bank_pays_first) withdraw withdraw_result pays_twice ∙ ap (receipt_of_answer 5 136) steps_vetoed

store_stays : StoreStays
store_stays = store_from_run bank_pays_first (genesis bank_pays_first) withdraw withdraw_result pays_twice ∙ ap (λ v. store_after (receipt_of_answer 5 136 v) (genesis bank_pays_first) withdraw_result.store) steps_vetoed

no_swaps_help : VetoesLeast → NoSwapsHelp
no_swaps_help law = no_swaps_from bank_pays_first (genesis bank_pays_first) withdraw withdraw_result pays_twice law 0 8 (0 ∷ 2 ∷ []) steps_vetoed

pub returns : goal.returns
returns c = record {
  pays_twice = pays_twice;
  steps_vetoed = steps_vetoed;
  withdrawal_vetoed = withdrawal_vetoed;
  store_stays = store_stays;
  no_swaps_help = no_swaps_help c.vetoes_least.ensures;
}
