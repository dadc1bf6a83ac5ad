use Rattle.std.proofs.Common.{◌≡◌, Some, None, sym, subst, ◌∙◌}
use Rattle.ecf_rows.specs.Standing.{Standing, least_claimable}
use Rattle.ecf_rows.proofs.FindLaws.{none_claimable, least_is}
use Rattle.ecf_rows.proofs.rows.Rows.least.Goals as goal

pub returns-in_err-row-clause-least : goal.returns-in_err-row-clause-least
returns-in_err-row-clause-least c =
    let s : Standing = record { submitters = c.self.inside.submitters.items; states = c.self.inside.states.items } in
    c.from_residual.ensures ∙ subst (λ t. None ≡ least_claimable t) c.self.view_is (sym (none_claimable s c.self.inside.links.items c.self.inside.claimable c.self.inside.claimed c.self.inside.settled c.self.invariant c.in_err-row.ensures))

pub returns-clause-least : goal.returns-clause-least
returns-clause-least c =
    let s : Standing = record { submitters = c.self.inside.submitters.items; states = c.self.inside.states.items } in
    subst (λ t. Some c.in_ok-row.row ≡ least_claimable t) c.self.view_is (sym (least_is s c.self.inside.links.items c.self.inside.claimable c.self.inside.claimed c.self.inside.settled c.in_ok-row.row c.self.invariant c.in_ok-row.ensures))
