use Rattle.std.proofs.Common.{◌∷◌}
use Rattle.ecf_show.specs.Marks.Mark.{Line}
use Rattle.ecf_show.specs.Files.{member_marks}
use Rattle.ecf_show.proofs.TextLaws.{item_written, items_written}
use Rattle.ecf_show.proofs.StatementLaws.{line_written, lines_written}
use Rattle.ecf_show.proofs.files.write_members.Goals as goal

pub loop-member-preserved : goal.loop-member-preserved
loop-member-preserved c =
    item_written (λ member. Line 1 ∷ member_marks member) c.args.members.now c.loop-member.member-index c.member-item.result _ _ _ c.loop-member.invariant c.loop-member-test.true c.member-item.is
    (line_written 1 (member_marks c.member-item.result) _ _ _ c.in_ok-write_line.ensures c.in_ok-write_member.ensures)

pub returns : goal.returns
returns c =
    lines_written 1 (λ m depth. member_marks m) c.args.members.now _ _ (items_written (λ member. Line 1 ∷ member_marks member) c.args.members.now c.loop-member.member-index _ _ c.loop-member.invariant c.loop-member-test.false)
