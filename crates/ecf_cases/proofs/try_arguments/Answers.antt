use Rattle.ecf_cases.specs.Computation.{run_is, contracts, Objects}
use Rattle.ecf_cases.specs.TryArguments.{go, try_arguments, ArgumentReverts}
use Rattle.ecf_lang.specs.Genesis.{genesis}
use Rattle.ecf_lang.specs.Part.{pay, read_cell, write_cell, attempt_of}
use Rattle.ecf_cases.proofs.try_arguments.Goals as goal

built : Objects try_arguments.objects
built = search contracts depth 40 fits 4000

arguments_are_outside : ArgumentReverts
unfolding built pay read_cell write_cell attempt_of
arguments_are_outside = run_is try_arguments built (genesis try_arguments) go

pub returns : goal.returns
returns c = record { arguments_are_outside = arguments_are_outside }
