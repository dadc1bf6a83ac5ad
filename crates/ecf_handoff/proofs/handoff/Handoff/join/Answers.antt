use Rattle.ecf_handoff.proofs.BalanceLaws.{join_keeps}
use Rattle.ecf_handoff.proofs.handoff.Handoff.join.Goals as goal

pub absorb-requires-clause-rule : goal.absorb-requires-clause-rule
absorb-requires-clause-rule g c = join_keeps _ _ _ _ _
