use Rattle.std.proofs.Common.{arith}
use Rattle.ecf_judge.proofs.WalkLaws.{rotation_is, rotation_none, first_and_rest}
use Rattle.ecf_judge.proofs.cycle.place_of_least.Goals as goal

pub returns-in-empty-clause-least : goal.returns-in-empty-clause-least
returns-in-empty-clause-least c = rotation_none c.args.list.now c.in-empty.len_below

pub returns-in-len1-up-clause-least : goal.returns-in-len1-up-clause-least
returns-in-len1-up-clause-least c = rotation_is _ _ c.args.list.now c.place_of.result c.minimum.result (first_and_rest c.args.list.now _ c.in-len1-up.len_at_least (omega arith)) c.minimum.ensures c.place_of.ensures.from c.place_of.ensures.until
