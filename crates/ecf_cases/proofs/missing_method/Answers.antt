use Rattle.std.proofs.Common.{[]}
use Rattle.ecf_cases.specs.Computation.{run_is, contracts, Objects}
use Rattle.ecf_cases.specs.MissingMethod.{go, missing_method, CatchesMissing}
use Rattle.ecf_lang.specs.Part.{pay, read_cell, write_cell, attempt_of}
use Rattle.ecf_cases.proofs.missing_method.Goals as goal

built : Objects missing_method.objects
built = search contracts depth 40 fits 4000

catches_missing_method : CatchesMissing
unfolding built pay read_cell write_cell attempt_of
catches_missing_method = run_is missing_method built [] go

pub returns : goal.returns
returns c = record { catches_missing_method = catches_missing_method }
