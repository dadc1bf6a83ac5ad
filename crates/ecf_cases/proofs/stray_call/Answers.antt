use Rattle.ecf_cases.specs.Computation.{run_is, contracts, Objects}
use Rattle.ecf_cases.specs.StrayCall.{go, nobody, stray_call, Strays}
use Rattle.ecf_lang.specs.Part.{pay, read_cell, write_cell, attempt_of}
use Rattle.ecf_cases.proofs.stray_call.Goals as goal

built : Objects stray_call.objects
built = search contracts depth 40 fits 4000

misses_the_object : Strays
unfolding built pay read_cell write_cell attempt_of
misses_the_object = run_is stray_call built nobody go

pub returns : goal.returns
returns c = record { misses_the_object = misses_the_object }
