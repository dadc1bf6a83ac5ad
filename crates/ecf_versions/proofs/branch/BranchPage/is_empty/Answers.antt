-- A branch without leaves has no cells, and no leaf is empty.
use Rattle.std.proofs.Common.{arith, ◌≡◌, ◌∙◌, sym, length}
use Rattle.std.proofs.lemmas.Bool.Decides.{nat_tests}
use Rattle.ecf_versions.proofs.PlaceLaws.{no_items, no_cells}
use Rattle.ecf_versions.proofs.branch.BranchPage.is_empty.Goals as goal

pub returns : goal.returns
returns c = (
  λ yes. let none : length c.self.inside.items.items ≡ 0 = grind (arith, nat_tests, yes, c.is_empty.ensures) in sym c.self.view_is ∙ no_items (λ l. l) c.self.inside.items.items none,
  λ empty. let none : length c.self.inside.items.items ≡ 0 = no_cells (λ l. l) c.self.inside.items.items c.self.invariant.row (c.self.view_is ∙ empty) in grind (arith, nat_tests, none, c.is_empty.ensures),
)
