use Rattle.std.specs.Prelude.{[], ◌∷◌, Some, None}
use Rattle.ecf_cases.specs.AnswersOnRecord.{answers_on_record}
use Rattle.ecf_cases.specs.BankClearsFirst.{bank_clears_first, owed, cash, got, tries}
use Rattle.ecf_cases.specs.BankPaysFirst.{bank_pays_first}
use Rattle.ecf_cases.specs.CaughtRevert.{caught_revert}
use Rattle.ecf_cases.specs.Computation.{alone_is, contracts, Objects}
use Rattle.ecf_cases.specs.RunAlone.{FirstOfBank, SecondOfBank, FirstOfThief, SecondOfThief, UnclearedFirst, UnclearedSecond, NoAnswerLeft, NoFuelLeft, HearsInOrder, HearsFlag, UndoneAlone}
use Rattle.ecf_cases.specs.Words.{invocation}
use Rattle.ecf_lang.specs.Part.{pay, read_cell, write_cell}
use Rattle.ecf_cases.proofs.alone.Goals as goal

bank_clears_first_built : Objects bank_clears_first.objects
bank_clears_first_built = search contracts depth 40 fits 4000

bank_pays_first_built : Objects bank_pays_first.objects
bank_pays_first_built = search contracts depth 40 fits 4000

answers_on_record_built : Objects answers_on_record.objects
answers_on_record_built = search contracts depth 40 fits 4000

caught_revert_built : Objects caught_revert.objects
caught_revert_built = search contracts depth 40 fits 4000

first_of_bank : FirstOfBank
unfolding bank_clears_first_built pay read_cell write_cell
first_of_bank = alone_is bank_clears_first bank_clears_first_built ((owed 1, 5) ∷ (cash, 20) ∷ []) (invocation 0 0 (1 ∷ []) (Some 5) (0 ∷ []) 38) 0

second_of_bank : SecondOfBank
unfolding bank_clears_first_built pay read_cell write_cell
second_of_bank = alone_is bank_clears_first bank_clears_first_built ((cash, 15) ∷ []) (invocation 0 0 (1 ∷ []) (Some 0) (0 ∷ []) 38) 2

first_of_thief : FirstOfThief
unfolding bank_clears_first_built pay read_cell write_cell
first_of_thief = alone_is bank_clears_first bank_clears_first_built [] (invocation 1 1 (5 ∷ []) (Some 0) (0 ∷ []) 42) 1

second_of_thief : SecondOfThief
unfolding bank_clears_first_built pay read_cell write_cell
second_of_thief = alone_is bank_clears_first bank_clears_first_built ((got, 5) ∷ (tries, 1) ∷ []) (invocation 1 1 (0 ∷ []) (Some 0) [] 18) 3

outer_alone : UnclearedFirst
unfolding bank_pays_first_built pay read_cell write_cell
outer_alone = alone_is bank_pays_first bank_pays_first_built ((owed 1, 5) ∷ (cash, 20) ∷ []) (invocation 0 0 (1 ∷ []) (Some 5) (0 ∷ []) 38) 0

inner_alone : UnclearedSecond
unfolding bank_pays_first_built pay read_cell write_cell
inner_alone = alone_is bank_pays_first bank_pays_first_built ((cash, 15) ∷ []) (invocation 0 0 (1 ∷ []) (Some 5) (0 ∷ []) 38) 2

no_answer_left : NoAnswerLeft
unfolding bank_clears_first_built pay read_cell write_cell
no_answer_left = alone_is bank_clears_first bank_clears_first_built ((owed 1, 5) ∷ (cash, 20) ∷ []) (invocation 0 0 (1 ∷ []) (Some 5) [] 38) 0

no_fuel_left : NoFuelLeft
unfolding bank_clears_first_built pay read_cell write_cell
no_fuel_left = alone_is bank_clears_first bank_clears_first_built ((owed 1, 5) ∷ (cash, 20) ∷ []) (invocation 0 0 (1 ∷ []) (Some 5) (0 ∷ []) 37) 0

hears_in_order : HearsInOrder
unfolding answers_on_record_built pay read_cell write_cell
hears_in_order = alone_is answers_on_record answers_on_record_built [] (invocation 0 0 [] (Some 241) (10 ∷ 30 ∷ 60 ∷ 100 ∷ 140 ∷ 240 ∷ []) 97) 0

hears_flag : HearsFlag
unfolding caught_revert_built pay read_cell write_cell
hears_flag = alone_is caught_revert caught_revert_built [] (invocation 0 0 [] (Some 1) (0 ∷ []) 25) 0

undone_alone : UndoneAlone
unfolding caught_revert_built pay read_cell write_cell
undone_alone = alone_is caught_revert caught_revert_built [] (invocation 1 1 [] None [] 8) 1

pub returns : goal.returns
returns c = record {
  first_of_bank = first_of_bank;
  second_of_bank = second_of_bank;
  first_of_thief = first_of_thief;
  second_of_thief = second_of_thief;
  outer_alone = outer_alone;
  inner_alone = inner_alone;
  no_answer_left = no_answer_left;
  no_fuel_left = no_fuel_left;
  hears_in_order = hears_in_order;
  hears_flag = hears_flag;
  undone_alone = undone_alone;
}
