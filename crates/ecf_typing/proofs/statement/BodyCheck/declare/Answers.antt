use Rattle.ecf_typing.specs.Passes.{locals_of}
use Rattle.ecf_typing.proofs.StatementLaws.{local_noted}
use Rattle.ecf_typing.proofs.statement.BodyCheck.declare.Goals as goal

pub returns-clause-noted : goal.returns-clause-noted
returns-clause-noted c =
    let known = rw (c.get.ensures, c.as_bytes.ensures) at c.is_some-known.ensures in
    local_noted c.args.limit c.args.at c.args.name.now (locals_of c.args.self.now) _ _ _ _ _ known c.is_past.ensures c.note_if.ensures c.note_if-2.ensures
