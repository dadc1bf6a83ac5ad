use Rattle.std.proofs.Common.{refl}
use Rattle.ecf_typing.proofs.StatementLaws.{try_passes}
use Rattle.ecf_typing.proofs.statement.BodyCheck.try_stmt.Goals as goal

pub returns : goal.returns
returns c =
    rw c.try_form.ensures (try_passes _ _ _ _ _ _ _ c.call.new.self (record c.call.new.self { faults = c.note_type.new.self }) _ _ _ c.in_ok-call.ensures.says c.in_ok-call.ensures.noted c.in_ok-call.ensures.same c.note_type.ensures refl c.in_ok-local.ensures.number c.in_ok-local.ensures.noted c.in_ok-local.ensures.after)
