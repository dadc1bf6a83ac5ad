use Rattle.ecf_cases.specs.Causes.{ask_div, ask_gone, ask_much, ask_over, ask_own, ask_rem, ask_under, causes, div_then_fine, fine_then_div, DifferenceOverflows, DividesByZero, FirstReverts, ProductOverflows, RemainderByZero, RevertsItself, SecondReverts, SumOverflows, WantsMethod}
use Rattle.ecf_cases.specs.Computation.{run_is, contracts, Objects}
use Rattle.ecf_lang.specs.Genesis.{genesis}
use Rattle.ecf_lang.specs.Part.{pay, read_cell, write_cell, attempt_of}
use Rattle.ecf_cases.proofs.causes.Goals as goal

built : Objects causes.objects
built = search contracts depth 40 fits 4000

sum_overflows : SumOverflows
unfolding built pay read_cell write_cell attempt_of
sum_overflows = run_is causes built (genesis causes) ask_over

difference_overflows : DifferenceOverflows
unfolding built pay read_cell write_cell attempt_of
difference_overflows = run_is causes built (genesis causes) ask_under

product_overflows : ProductOverflows
unfolding built pay read_cell write_cell attempt_of
product_overflows = run_is causes built (genesis causes) ask_much

divides_by_zero : DividesByZero
unfolding built pay read_cell write_cell attempt_of
divides_by_zero = run_is causes built (genesis causes) ask_div

remainder_by_zero : RemainderByZero
unfolding built pay read_cell write_cell attempt_of
remainder_by_zero = run_is causes built (genesis causes) ask_rem

wants_method : WantsMethod
unfolding built pay read_cell write_cell attempt_of
wants_method = run_is causes built (genesis causes) ask_gone

reverts_itself : RevertsItself
unfolding built pay read_cell write_cell attempt_of
reverts_itself = run_is causes built (genesis causes) ask_own

second_call_reverts : SecondReverts
unfolding built pay read_cell write_cell attempt_of
second_call_reverts = run_is causes built (genesis causes) fine_then_div

first_call_reverts : FirstReverts
unfolding built pay read_cell write_cell attempt_of
first_call_reverts = run_is causes built (genesis causes) div_then_fine

pub returns : goal.returns
returns c = record {
  sum_overflows = sum_overflows;
  difference_overflows = difference_overflows;
  product_overflows = product_overflows;
  divides_by_zero = divides_by_zero;
  remainder_by_zero = remainder_by_zero;
  wants_method = wants_method;
  reverts_itself = reverts_itself;
  second_call_reverts = second_call_reverts;
  first_call_reverts = first_call_reverts;
}
