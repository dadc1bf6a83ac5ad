use Rattle.std.proofs.Common.{rules}
use Rattle.ecf_handoff.proofs.BalanceLaws.{take_keeps, pass_knows}
use Rattle.ecf_handoff.proofs.handoff.Handoff.take.Goals as goal

pub pop_as-item-requires-clause-rule : goal.pop_as-item-requires-clause-rule
pop_as-item-requires-clause-rule g c = (take_keeps _ _ _ (search rules), pass_knows _ _ _)
