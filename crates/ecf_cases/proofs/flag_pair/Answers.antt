use Rattle.ecf_cases.specs.Computation.{run_is, contracts, Objects}
use Rattle.ecf_cases.specs.FlagPair.{ask_both, ask_either, ask_not_a, flag_pair, odd_flags, OddBoth, OddEither, OddNot}
use Rattle.ecf_lang.specs.Part.{pay, read_cell, write_cell, attempt_of}
use Rattle.ecf_cases.proofs.flag_pair.Goals as goal

built : Objects flag_pair.objects
built = search contracts depth 40 fits 4000

and_gives_the_last_value : OddBoth
unfolding built pay read_cell write_cell attempt_of
and_gives_the_last_value = run_is flag_pair built odd_flags ask_both

or_gives_the_last_value : OddEither
unfolding built pay read_cell write_cell attempt_of
or_gives_the_last_value = run_is flag_pair built odd_flags ask_either

not_of_an_odd_flag : OddNot
unfolding built pay read_cell write_cell attempt_of
not_of_an_odd_flag = run_is flag_pair built odd_flags ask_not_a

pub returns : goal.returns
returns c = record {
  and_gives_the_last_value = and_gives_the_last_value;
  or_gives_the_last_value = or_gives_the_last_value;
  not_of_an_odd_flag = not_of_an_odd_flag;
}
