use Rattle.std.proofs.Common.{[]}
use Rattle.ecf_cases.specs.Computation.{run_is, contracts, Objects}
use Rattle.ecf_cases.specs.OuterDepth.{go, go_with_less, outer_depth, NotPaidOutside, TooDeepOutside}
use Rattle.ecf_lang.specs.Part.{pay, read_cell, write_cell, attempt_of}
use Rattle.ecf_cases.proofs.outer_depth.Goals as goal

built : Objects outer_depth.objects
built = search contracts depth 40 fits 4000

too_deep_outside : TooDeepOutside
unfolding built pay read_cell write_cell attempt_of
too_deep_outside = run_is outer_depth built [] go

not_paid_outside : NotPaidOutside
unfolding built pay read_cell write_cell attempt_of
not_paid_outside = run_is outer_depth built [] go_with_less

pub returns : goal.returns
returns c = record { too_deep_outside = too_deep_outside; not_paid_outside = not_paid_outside }
