use Rattle.std.proofs.Common.{[]}
use Rattle.ecf_cases.specs.CaughtDepth.{caught_depth, go, CatchesDepth}
use Rattle.ecf_cases.specs.Computation.{run_is, contracts, Objects}
use Rattle.ecf_lang.specs.Part.{pay, read_cell, write_cell, attempt_of}
use Rattle.ecf_cases.proofs.caught_depth.Goals as goal

built : Objects caught_depth.objects
built = search contracts depth 40 fits 4000

catches_depth : CatchesDepth
unfolding built pay read_cell write_cell attempt_of
catches_depth = run_is caught_depth built [] go

pub returns : goal.returns
returns c = record { catches_depth = catches_depth }
