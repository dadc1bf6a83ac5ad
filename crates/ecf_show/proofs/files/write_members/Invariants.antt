use Rattle.std.proofs.Common.{◌∷◌, take}
use Rattle.std.specs.List.{flat_map}
use Rattle.ecf_show.specs.Marks.{Wrote}
use Rattle.ecf_show.specs.Marks.Mark.{Line}
use Rattle.ecf_show.specs.Files.{member_marks}
use Rattle.ecf_show.proofs.files.write_members.Given as goal

-- the members so far
abbrev pub invariant-loop-member : goal.invariant-loop-member
invariant-loop-member l = Wrote l.initial.text.items l.text.items (flat_map (λ member. Line 1 ∷ member_marks member) (take l.member-index l.members))
