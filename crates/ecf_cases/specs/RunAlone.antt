-- Invocations of whole runs, each run alone.
use Rattle.std.specs.Prelude.{◌≡◌, [], ◌∷◌, Some, None}
use Rattle.ecf_cases.specs.AnswersOnRecord.{answers_on_record, m}
use Rattle.ecf_cases.specs.BankClearsFirst.{bank_clears_first, owed, cash, got, tries}
use Rattle.ecf_cases.specs.BankPaysFirst.{bank_pays_first}
use Rattle.ecf_cases.specs.CaughtRevert.{caught_revert, x, y}
use Rattle.ecf_cases.specs.Words.{invocation}
use Rattle.ecf_lang.specs.Alone.{alone, Lone}
use Rattle.ecf_lang.specs.declared.run.Cause.TheVariants.{User}
use Rattle.ecf_lang.specs.declared.run.Outcome.TheVariants.{Answer, Reverted, OutOfFuel}
use Rattle.ecf_verdicts.specs.Words.{read_step, write_step}

-- the first withdrawal, on the cells of the bank before the run
abbrev pub first_withdrawal : Lone
first_withdrawal = record {
  outcome = Answer 5;
  steps = read_step 0 (owed 1) 5 ∷ write_step 0 (owed 1) 0 ∷ read_step 0 cash 20 ∷ write_step 0 cash 15 ∷ [];
  writes = (owed 1, 0) ∷ (cash, 15) ∷ [];
  fields = (cash, 15) ∷ [];
}

abbrev pub FirstOfBank : Type 0
FirstOfBank = alone bank_clears_first 0 (invocation 0 0 (1 ∷ []) (Some 5) (0 ∷ []) 38) ((owed 1, 5) ∷ (cash, 20) ∷ []) ≡ first_withdrawal

-- the second withdrawal, on the cells that the first left
abbrev pub second_withdrawal : Lone
second_withdrawal = record {
  outcome = Answer 0;
  steps = read_step 2 (owed 1) 0 ∷ write_step 2 (owed 1) 0 ∷ read_step 2 cash 15 ∷ write_step 2 cash 15 ∷ [];
  writes = (owed 1, 0) ∷ (cash, 15) ∷ [];
  fields = (cash, 15) ∷ [];
}

abbrev pub SecondOfBank : Type 0
SecondOfBank = alone bank_clears_first 2 (invocation 0 0 (1 ∷ []) (Some 0) (0 ∷ []) 38) ((cash, 15) ∷ []) ≡ second_withdrawal

-- the first call of receive, on no cells
abbrev pub first_receiving : Lone
first_receiving = record {
  outcome = Answer 0;
  steps = read_step 1 got 0 ∷ write_step 1 got 5 ∷ read_step 1 tries 0 ∷ read_step 1 tries 0 ∷ write_step 1 tries 1 ∷ [];
  writes = (got, 5) ∷ (tries, 1) ∷ [];
  fields = (got, 5) ∷ (tries, 1) ∷ [];
}

abbrev pub FirstOfThief : Type 0
FirstOfThief = alone bank_clears_first 1 (invocation 1 1 (5 ∷ []) (Some 0) (0 ∷ []) 42) [] ≡ first_receiving

-- the second call of receive, on the cells that the first left
abbrev pub second_receiving : Lone
second_receiving = record {
  outcome = Answer 0;
  steps = read_step 3 got 5 ∷ write_step 3 got 5 ∷ read_step 3 tries 1 ∷ [];
  writes = (got, 5) ∷ [];
  fields = (got, 5) ∷ (tries, 1) ∷ [];
}

abbrev pub SecondOfThief : Type 0
SecondOfThief = alone bank_clears_first 3 (invocation 1 1 (0 ∷ []) (Some 0) [] 18) ((got, 5) ∷ (tries, 1) ∷ []) ≡ second_receiving

-- where the bank pays first, the outer withdrawal alone clears before the inner one begins
abbrev pub outer_withdrawal : Lone
outer_withdrawal = record {
  outcome = Answer 5;
  steps = read_step 0 (owed 1) 5 ∷ read_step 0 cash 20 ∷ write_step 0 cash 15 ∷ write_step 0 (owed 1) 0 ∷ [];
  writes = (owed 1, 0) ∷ (cash, 15) ∷ [];
  fields = (cash, 15) ∷ [];
}

abbrev pub UnclearedFirst : Type 0
UnclearedFirst = alone bank_pays_first 0 (invocation 0 0 (1 ∷ []) (Some 5) (0 ∷ []) 38) ((owed 1, 5) ∷ (cash, 20) ∷ []) ≡ outer_withdrawal

-- where the bank pays first, the inner withdrawal alone pays nothing: it answers 0, and not 5
abbrev pub inner_withdrawal : Lone
inner_withdrawal = record {
  outcome = Answer 0;
  steps = read_step 2 (owed 1) 0 ∷ read_step 2 cash 15 ∷ write_step 2 cash 15 ∷ write_step 2 (owed 1) 0 ∷ [];
  writes = (owed 1, 0) ∷ (cash, 15) ∷ [];
  fields = (cash, 15) ∷ [];
}

abbrev pub UnclearedSecond : Type 0
UnclearedSecond = alone bank_pays_first 2 (invocation 0 0 (1 ∷ []) (Some 5) (0 ∷ []) 38) ((cash, 15) ∷ []) ≡ inner_withdrawal

-- no recorded answer is left at a call: the run is out of fuel
abbrev pub unanswered_withdrawal : Lone
unanswered_withdrawal = record {
  outcome = OutOfFuel;
  steps = read_step 0 (owed 1) 5 ∷ write_step 0 (owed 1) 0 ∷ read_step 0 cash 20 ∷ write_step 0 cash 15 ∷ [];
  writes = [];
  fields = (owed 1, 5) ∷ (cash, 20) ∷ [];
}

abbrev pub NoAnswerLeft : Type 0
NoAnswerLeft = alone bank_clears_first 0 (invocation 0 0 (1 ∷ []) (Some 5) [] 38) ((owed 1, 5) ∷ (cash, 20) ∷ []) ≡ unanswered_withdrawal

-- with one less than its own fuel, it is out of fuel
abbrev pub unpaid_withdrawal : Lone
unpaid_withdrawal = record {
  outcome = OutOfFuel;
  steps = read_step 0 (owed 1) 5 ∷ write_step 0 (owed 1) 0 ∷ read_step 0 cash 20 ∷ write_step 0 cash 15 ∷ [];
  writes = [];
  fields = (owed 1, 5) ∷ (cash, 20) ∷ [];
}

abbrev pub NoFuelLeft : Type 0
NoFuelLeft = alone bank_clears_first 0 (invocation 0 0 (1 ∷ []) (Some 5) (0 ∷ []) 37) ((owed 1, 5) ∷ (cash, 20) ∷ []) ≡ unpaid_withdrawal

-- recorded answers are taken in order, by internal calls too
abbrev pub ordered_hearing : Lone
ordered_hearing = record {
  outcome = Answer 241;
  steps = write_step 0 (m 60) 100 ∷ [];
  writes = (m 60, 100) ∷ [];
  fields = (m 60, 100) ∷ [];
}

abbrev pub HearsInOrder : Type 0
HearsInOrder = alone answers_on_record 0 (invocation 0 0 [] (Some 241) (10 ∷ 30 ∷ 60 ∷ 100 ∷ 140 ∷ 240 ∷ []) 97) [] ≡ ordered_hearing

-- a `try` takes the recorded flag
abbrev pub flag_hearing : Lone
flag_hearing = record {
  outcome = Answer 1;
  steps = write_step 0 x 1 ∷ read_step 0 x 1 ∷ [];
  writes = (x, 1) ∷ [];
  fields = (x, 1) ∷ [];
}

abbrev pub HearsFlag : Type 0
HearsFlag = alone caught_revert 0 (invocation 0 0 [] (Some 1) (0 ∷ []) 25) [] ≡ flag_hearing

-- an undone invocation alone reverts, and its fields stay
abbrev pub undone_call : Lone
undone_call = record {
  outcome = Reverted (User 3);
  steps = write_step 1 y 7 ∷ [];
  writes = [];
  fields = [];
}

abbrev pub UndoneAlone : Type 0
UndoneAlone = alone caught_revert 1 (invocation 1 1 [] None [] 8) [] ≡ undone_call
