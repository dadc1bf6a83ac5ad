use Rattle.std.proofs.Common.{rules, ◌≡◌, ◌<◌, ◌≤◌, true, length, arith}
use Rattle.std.specs.Prelude.{take, IsTrue}
use Rattle.ecf_pool.proofs.RoundLaws.{further}
use Rattle.ecf_pool.proofs.rounds.is_round.Goals as goal

pub loop-place-preserved : goal.loop-place-preserved
loop-place-preserved c =
    let yes : IsTrue c.may_follow.result = search rules in
    let follows = c.may_follow.ensures yes in
    let within : c.loop-place.place < length c.args.log.now = search rules in
    let at : c.args.from ≤ c.loop-place.place = c.loop-place.invariant.0 in
    (omega arith, further (c.args.gave_up ≡ true) (take c.args.from c.args.log.now) c.args.log.now c.loop-place.place _ within c.loop-place.invariant.1 follows.0 follows.1)
