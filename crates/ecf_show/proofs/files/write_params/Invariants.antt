use Rattle.std.proofs.Common.{◌++◌, take}
use Rattle.std.specs.List.{flat_map}
use Rattle.ecf_show.specs.Marks.{Wrote, comma}
use Rattle.ecf_show.specs.Files.{param_marks}
use Rattle.ecf_show.proofs.files.write_params.Given as goal

-- the further parameters so far
abbrev pub invariant-loop-param : goal.invariant-loop-param
invariant-loop-param l = Wrote l.initial.text.items l.text.items (flat_map (λ param. comma ++ param_marks param) (take l.param-index l.rest))
