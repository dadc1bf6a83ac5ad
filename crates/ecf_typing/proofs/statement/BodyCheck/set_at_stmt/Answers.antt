use Rattle.std.proofs.Common.{refl}
use Rattle.ecf_typing.proofs.StatementLaws.{set_at_passes}
use Rattle.ecf_typing.proofs.statement.BodyCheck.set_at_stmt.Goals as goal

pub returns : goal.returns
returns c =
    let own = rw c.as_bytes.ensures at c.get-own.ensures in
    let key = rw c.key_type.ensures at c.in_ok-key.ensures in
    let value = rw c.value_type.ensures at c.in_ok-value.ensures in
    rw c.map_number.ensures (set_at_passes _ _ _ _ _ _ _ _ _ _ _ _ _ own c.note_map.ensures refl key value)
