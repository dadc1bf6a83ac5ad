use Rattle.std.proofs.Common.{◌≡◌, nat_lt, subst, ap, ◌∙◌}
use Rattle.std.specs.List.{list_any}
use Rattle.ecf_core.specs.Book.{is_claimed}
use Rattle.ecf_rows.proofs.FindLaws.{some_counted}
use Rattle.ecf_rows.proofs.rows.Rows.any_claimed.Goals as goal

pub returns : goal.returns
returns c = subst (λ s. nat_lt 0 c.self.inside.claimed ≡ list_any is_claimed s.states) c.self.view_is (ap (nat_lt 0) c.self.invariant.counted ∙ some_counted is_claimed c.self.inside.states.items)
