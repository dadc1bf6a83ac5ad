use Rattle.std.proofs.Common.{[]}
use Rattle.ecf_cases.specs.Computation.{run_is, contracts, Objects}
use Rattle.ecf_cases.specs.EndlessLoop.{endless_loop, spin, Spins}
use Rattle.ecf_lang.specs.Part.{pay, read_cell, write_cell, attempt_of}
use Rattle.ecf_cases.proofs.endless_loop.Goals as goal

built : Objects endless_loop.objects
built = search contracts depth 40 fits 4000

spins : Spins
unfolding built pay read_cell write_cell attempt_of
spins = run_is endless_loop built [] spin

pub returns : goal.returns
returns c = record { spins = spins }
