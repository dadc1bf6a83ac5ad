use Rattle.std.proofs.Common.{[]}
use Rattle.ecf_cases.specs.CaughtCallback.{caught_callback, go, UndoesCallback}
use Rattle.ecf_cases.specs.Computation.{run_is, contracts, Objects}
use Rattle.ecf_lang.specs.Part.{pay, read_cell, write_cell, attempt_of}
use Rattle.ecf_cases.proofs.caught_callback.Goals as goal

built : Objects caught_callback.objects
built = search contracts depth 40 fits 4000

undoes_callback : UndoesCallback
unfolding built pay read_cell write_cell attempt_of
undoes_callback = run_is caught_callback built [] go

pub returns : goal.returns
returns c = record { undoes_callback = undoes_callback }
