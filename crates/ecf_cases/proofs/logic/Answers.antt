use Rattle.ecf_cases.specs.Computation.{run_is, contracts, Objects}
use Rattle.ecf_cases.specs.Logic.{both_1, both_2, choose_0, choose_1, choose_2, either_1, either_2, logic, silent_0, silent_4, three_2, three_6, AllThree, BothRead, EndsSilently, FirstArm, LastBlock, NoElse, NoneOfThree, OtherRead, OtherSkipped, RightSkipped, SecondArm}
use Rattle.ecf_lang.specs.Genesis.{genesis}
use Rattle.ecf_lang.specs.Part.{pay, read_cell, write_cell, attempt_of}
use Rattle.ecf_cases.proofs.logic.Goals as goal

built : Objects logic.objects
built = search contracts depth 40 fits 4000

evaluates_both : BothRead
unfolding built pay read_cell write_cell attempt_of
evaluates_both = run_is logic built (genesis logic) both_1

skips_after_false : RightSkipped
unfolding built pay read_cell write_cell attempt_of
skips_after_false = run_is logic built (genesis logic) both_2

evaluates_other : OtherRead
unfolding built pay read_cell write_cell attempt_of
evaluates_other = run_is logic built (genesis logic) either_1

skips_after_true : OtherSkipped
unfolding built pay read_cell write_cell attempt_of
skips_after_true = run_is logic built (genesis logic) either_2

negates : AllThree
unfolding built pay read_cell write_cell attempt_of
negates = run_is logic built (genesis logic) three_2

skips_two : NoneOfThree
unfolding built pay read_cell write_cell attempt_of
skips_two = run_is logic built (genesis logic) three_6

takes_first_arm : FirstArm
unfolding built pay read_cell write_cell attempt_of
takes_first_arm = run_is logic built (genesis logic) choose_0

takes_second_arm : SecondArm
unfolding built pay read_cell write_cell attempt_of
takes_second_arm = run_is logic built (genesis logic) choose_1

takes_else : LastBlock
unfolding built pay read_cell write_cell attempt_of
takes_else = run_is logic built (genesis logic) choose_2

answers_0_at_its_end : EndsSilently
unfolding built pay read_cell write_cell attempt_of
answers_0_at_its_end = run_is logic built (genesis logic) silent_4

returns_before_its_end : NoElse
unfolding built pay read_cell write_cell attempt_of
returns_before_its_end = run_is logic built (genesis logic) silent_0

pub returns : goal.returns
returns c = record {
  evaluates_both = evaluates_both;
  skips_after_false = skips_after_false;
  evaluates_other = evaluates_other;
  skips_after_true = skips_after_true;
  negates = negates;
  skips_two = skips_two;
  takes_first_arm = takes_first_arm;
  takes_second_arm = takes_second_arm;
  takes_else = takes_else;
  answers_0_at_its_end = answers_0_at_its_end;
  returns_before_its_end = returns_before_its_end;
}
