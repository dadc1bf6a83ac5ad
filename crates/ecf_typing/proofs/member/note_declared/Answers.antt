use Rattle.ecf_typing.proofs.FileLaws.{declared_noted}
use Rattle.ecf_typing.proofs.member.note_declared.Goals as goal

pub returns-clause-methods : goal.returns-clause-methods
returns-clause-methods c = c.in_ok-methods.ensures.table

pub returns-clause-faults : goal.returns-clause-faults
returns-clause-faults c = declared_noted c.args.members.now _ _ _ _ _ c.in_ok-note_members.ensures.faults c.in_ok-methods.ensures.faults c.note_members_past.ensures c.note_members_past-2.ensures
