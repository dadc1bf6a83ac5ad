use Rattle.ecf_typing.proofs.StatementLaws.{let_passes}
use Rattle.ecf_typing.proofs.statement.BodyCheck.let_stmt.Goals as goal

pub returns : goal.returns
returns c = let_passes _ _ _ _ _ _ _ _ _ _ _ c.in_ok-value.ensures c.in_ok-local.ensures.number c.in_ok-local.ensures.noted c.in_ok-local.ensures.after
