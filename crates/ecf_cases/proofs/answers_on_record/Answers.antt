use Rattle.std.proofs.Common.{[]}
use Rattle.ecf_cases.specs.AnswersOnRecord.{answers_on_record, go, AnswersInOrder}
use Rattle.ecf_cases.specs.Computation.{run_is, contracts, Objects}
use Rattle.ecf_lang.specs.Part.{pay, read_cell, write_cell, attempt_of}
use Rattle.ecf_cases.proofs.answers_on_record.Goals as goal

built : Objects answers_on_record.objects
built = search contracts depth 40 fits 4000

answers_in_order : AnswersInOrder
unfolding built pay read_cell write_cell attempt_of
answers_in_order = run_is answers_on_record built [] go

pub returns : goal.returns
returns c = record { answers_in_order = answers_in_order }
