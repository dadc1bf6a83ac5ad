use Rattle.std.proofs.Common.{◌++◌, take}
use Rattle.std.specs.List.{flat_map}
use Rattle.ecf_show.specs.Marks.{Wrote, comma}
use Rattle.ecf_show.specs.Files.{entry_marks}
use Rattle.ecf_show.proofs.files.write_entries.Given as goal

-- the further entries so far
abbrev pub invariant-loop-entry : goal.invariant-loop-entry
invariant-loop-entry l = Wrote l.initial.text.items l.text.items (flat_map (λ entry. comma ++ entry_marks entry) (take l.entry-index l.rest))
