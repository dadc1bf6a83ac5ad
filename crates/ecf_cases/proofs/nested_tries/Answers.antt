use Rattle.std.proofs.Common.{[]}
use Rattle.ecf_cases.specs.Computation.{run_is, contracts, Objects}
use Rattle.ecf_cases.specs.NestedTries.{go, nested_tries, InnermostCatches}
use Rattle.ecf_lang.specs.Part.{pay, read_cell, write_cell, attempt_of}
use Rattle.ecf_cases.proofs.nested_tries.Goals as goal

built : Objects nested_tries.objects
built = search contracts depth 40 fits 4000

innermost_catches : InnermostCatches
unfolding built pay read_cell write_cell attempt_of
innermost_catches = run_is nested_tries built [] go

pub returns : goal.returns
returns c = record { innermost_catches = innermost_catches }
