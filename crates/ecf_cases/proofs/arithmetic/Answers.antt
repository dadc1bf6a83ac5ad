use Rattle.ecf_cases.specs.Arithmetic.{arithmetic, ask_great_product, ask_greatest, ask_least, chain_20, grouped_20, mixed_20, products_20, Chains, GreatProduct, Greatest, Groups, Least, Mixes, Multiplies}
use Rattle.ecf_cases.specs.Computation.{run_is, contracts, Objects}
use Rattle.ecf_lang.specs.Genesis.{genesis}
use Rattle.ecf_lang.specs.Part.{pay, read_cell, write_cell, attempt_of}
use Rattle.ecf_cases.proofs.arithmetic.Goals as goal

built : Objects arithmetic.objects
built = search contracts depth 40 fits 4000

goes_left_to_right : Chains
unfolding built pay read_cell write_cell attempt_of
goes_left_to_right = run_is arithmetic built (genesis arithmetic) chain_20

keeps_brackets : Groups
unfolding built pay read_cell write_cell attempt_of
keeps_brackets = run_is arithmetic built (genesis arithmetic) grouped_20

multiplies_in_order : Multiplies
unfolding built pay read_cell write_cell attempt_of
multiplies_in_order = run_is arithmetic built (genesis arithmetic) products_20

multiplies_first : Mixes
unfolding built pay read_cell write_cell attempt_of
multiplies_first = run_is arithmetic built (genesis arithmetic) mixed_20

reaches_the_greatest_number : Greatest
unfolding built pay read_cell write_cell attempt_of
reaches_the_greatest_number = run_is arithmetic built (genesis arithmetic) ask_greatest

reaches_0 : Least
unfolding built pay read_cell write_cell attempt_of
reaches_0 = run_is arithmetic built (genesis arithmetic) ask_least

multiplies_great_numbers : GreatProduct
unfolding built pay read_cell write_cell attempt_of
multiplies_great_numbers = run_is arithmetic built (genesis arithmetic) ask_great_product

pub returns : goal.returns
returns c = record {
  goes_left_to_right = goes_left_to_right;
  keeps_brackets = keeps_brackets;
  multiplies_in_order = multiplies_in_order;
  multiplies_first = multiplies_first;
  reaches_the_greatest_number = reaches_the_greatest_number;
  reaches_0 = reaches_0;
  multiplies_great_numbers = multiplies_great_numbers;
}
