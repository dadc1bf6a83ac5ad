use Rattle.std.proofs.Common.{rules}
use Rattle.ecf_handoff.proofs.BalanceLaws.{split_keeps}
use Rattle.ecf_handoff.proofs.handoff.Handoff.split.Goals as goal

pub another-second-requires-clause-rule : goal.another-second-requires-clause-rule
another-second-requires-clause-rule g c = split_keeps _ _ _ (search rules)
