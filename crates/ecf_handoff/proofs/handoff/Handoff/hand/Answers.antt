use Rattle.std.proofs.Common.{rules}
use Rattle.ecf_handoff.proofs.BalanceLaws.{hand_keeps, pass_knows}
use Rattle.ecf_handoff.proofs.handoff.Handoff.hand.Goals as goal

pub push_as-requires-clause-rule : goal.push_as-requires-clause-rule
push_as-requires-clause-rule g c = (hand_keeps _ _ _ _ _ (search rules) (search rules), pass_knows _ _ _)
