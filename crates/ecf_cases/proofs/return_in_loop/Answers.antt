use Rattle.std.proofs.Common.{[]}
use Rattle.ecf_cases.specs.Computation.{run_is, contracts, Objects}
use Rattle.ecf_cases.specs.ReturnInLoop.{first_with_2, return_in_loop, ReturnsFromLoop}
use Rattle.ecf_lang.specs.Part.{pay, read_cell, write_cell, attempt_of}
use Rattle.ecf_cases.proofs.return_in_loop.Goals as goal

built : Objects return_in_loop.objects
built = search contracts depth 40 fits 4000

returns_from_loop : ReturnsFromLoop
unfolding built pay read_cell write_cell attempt_of
returns_from_loop = run_is return_in_loop built [] first_with_2

pub returns : goal.returns
returns c = record { returns_from_loop = returns_from_loop }
