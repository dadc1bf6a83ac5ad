use Rattle.ecf_cases.specs.Computation.{run_is, contracts, Objects}
use Rattle.ecf_cases.specs.OwnDepth.{go, go_with_less, own_depth, NotPaid, TooDeep}
use Rattle.ecf_lang.specs.Genesis.{genesis}
use Rattle.ecf_lang.specs.Part.{pay, read_cell, write_cell, attempt_of}
use Rattle.ecf_cases.proofs.own_depth.Goals as goal

built : Objects own_depth.objects
built = search contracts depth 40 fits 4000

too_deep : TooDeep
unfolding built pay read_cell write_cell attempt_of
too_deep = run_is own_depth built (genesis own_depth) go

not_paid : NotPaid
unfolding built pay read_cell write_cell attempt_of
not_paid = run_is own_depth built (genesis own_depth) go_with_less

pub returns : goal.returns
returns c = record { too_deep = too_deep; not_paid = not_paid }
