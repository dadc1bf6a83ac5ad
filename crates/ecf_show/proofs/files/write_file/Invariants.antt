use Rattle.std.proofs.Common.{take}
use Rattle.std.specs.List.{flat_map}
use Rattle.ecf_show.specs.Marks.{Wrote}
use Rattle.ecf_show.specs.Files.{object_marks}
use Rattle.ecf_show.proofs.files.write_file.Given as goal

-- the objects so far
abbrev pub invariant-loop-object : goal.invariant-loop-object
invariant-loop-object l = Wrote l.initial.text.items l.text.items (flat_map object_marks (take l.object-index l.object-items))
