use Rattle.ecf_faults.specs.declared.What.TheVariants as what
use Rattle.ecf_typing.specs.Sorts.{declaration_in}
use Rattle.ecf_typing.proofs.DeclarationLaws.{room_more, excess_more}
use Rattle.ecf_typing.proofs.declaration.note_members_past.Goals as goal

pub loop-member-preserved : goal.loop-member-preserved
loop-member-preserved c =
    let members = c.args.members.now in
    let i = c.loop-member.member-index in
    record {
      room = room_more (declaration_in c.args.sort) members i c.member-item.result c.args.limit _ _ c.loop-member.invariant.room c.loop-member-test.true c.member-item.is c.note_member_place-room.ensures.room;
      faults = excess_more what.TooManyMembers (declaration_in c.args.sort) members i c.member-item.result c.args.limit _ c.args.faults.now.first _ _ c.loop-member.invariant.room c.loop-member.invariant.faults c.loop-member-test.true c.member-item.is c.note_member_place-room.ensures.faults;
    }
