use Rattle.std.proofs.Common.{[]}
use Rattle.ecf_cases.specs.AnsweredTry.{answered_try, go, KeepsAnswer}
use Rattle.ecf_cases.specs.Computation.{run_is, contracts, Objects}
use Rattle.ecf_lang.specs.Part.{pay, read_cell, write_cell, attempt_of}
use Rattle.ecf_cases.proofs.answered_try.Goals as goal

built : Objects answered_try.objects
built = search contracts depth 40 fits 4000

keeps_an_answer : KeepsAnswer
unfolding built pay read_cell write_cell attempt_of
keeps_an_answer = run_is answered_try built [] go

pub returns : goal.returns
returns c = record { keeps_an_answer = keeps_an_answer }
