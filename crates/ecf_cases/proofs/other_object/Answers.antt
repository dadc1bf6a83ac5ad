use Rattle.std.proofs.Common.{[]}
use Rattle.ecf_cases.specs.Computation.{run_is, contracts, Objects}
use Rattle.ecf_cases.specs.OtherObject.{go, other_object, CallsAnother}
use Rattle.ecf_lang.specs.Part.{pay, read_cell, write_cell, attempt_of}
use Rattle.ecf_cases.proofs.other_object.Goals as goal

built : Objects other_object.objects
built = search contracts depth 40 fits 4000

calls_another : CallsAnother
unfolding built pay read_cell write_cell attempt_of
calls_another = run_is other_object built [] go

pub returns : goal.returns
returns c = record { calls_another = calls_another }
