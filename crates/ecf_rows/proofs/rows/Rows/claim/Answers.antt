use Rattle.std.proofs.Common.{◌≡◌, ◌+◌, ◌<◌, true, length, refl, sym, subst, arith}
use Rattle.ecf_core.specs.declared.book.RowState.TheVariants.{Claimed}
use Rattle.ecf_rows.specs.Standing.{Standing, may_claim}
use Rattle.ecf_rows.proofs.TurnLaws.{taken}
use Rattle.ecf_rows.proofs.rows.Rows.claim.Goals as goal

pub invariant_of-self : goal.invariant_of-self
invariant_of-self c =
    let s : Standing = record { submitters = c.self.inside.submitters.items; states = c.self.inside.states.items } in
    let inside : c.args.row < length c.self.inside.states.items = grind arith in
    let may : may_claim s c.args.row ≡ true = subst (λ t. may_claim t c.args.row ≡ true) (sym c.self.view_is) c.requires in
    taken s c.self.inside.links.items c.self.inside.claimable c.remove.new.self c.self.inside.claimed c.self.inside.settled c.args.row (Claimed c.args.ticket (c.in-Some-Free.claims + 1) 0) c.self.invariant inside may refl c.remove.ensures.members c.remove.ensures.words
