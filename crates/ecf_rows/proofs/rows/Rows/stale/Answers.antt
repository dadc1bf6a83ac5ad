use Rattle.std.proofs.Common.{◌≡◌, ◌<◌, length, arith}
use Rattle.std.proofs.lemmas.Grind.{common_steps}
use Rattle.ecf_rows.specs.Standing.{Standing, state_at}
use Rattle.ecf_rows.proofs.TurnLaws.{stale_kept}
use Rattle.ecf_rows.proofs.rows.Rows.stale.Goals as goal

pub invariant_of-self : goal.invariant_of-self
invariant_of-self c =
    let s : Standing = record { submitters = c.self.inside.submitters.items; states = c.self.inside.states.items } in
    let inside : c.args.row < length c.self.inside.states.items = grind arith in
    let is : state_at s c.args.row ≡ c.index.result.now = grind (arith, common_steps) in
    rw c.staled.ensures (stale_kept s c.self.inside.links.items c.self.inside.claimable c.self.inside.claimed c.self.inside.settled c.args.row c.index.result.now is c.self.invariant inside)
