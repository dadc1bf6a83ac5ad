use Rattle.std.proofs.Common.{refl}
use Rattle.ecf_typing.proofs.StatementLaws.{set_passes}
use Rattle.ecf_typing.proofs.statement.BodyCheck.set_stmt.Goals as goal

pub returns : goal.returns
returns c =
    let value = rw c.assignee_type.ensures at c.in_ok-value.ensures in
    set_passes _ _ _ _ _ _ _ _ _ _ _ c.referent-left.ensures c.note_assignee.ensures refl value c.assignee_form.ensures
