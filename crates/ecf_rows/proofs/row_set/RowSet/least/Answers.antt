use Rattle.std.proofs.Common.{subst}
use Rattle.ecf_rows.specs.RowSet.{IsLeast}
use Rattle.ecf_rows.proofs.LevelLaws.{nothing_found, least_found}
use Rattle.ecf_rows.proofs.row_set.RowSet.least.Goals as goal

pub returns-in_err-place : goal.returns-in_err-place
returns-in_err-place c =
    subst (λ words. IsLeast words c.from_residual.result) c.self.view_is
    (nothing_found c.self.inside.words.items c.self.inside.above.items c.self.inside.top.items c.as_slice.result.now c.from_residual.result c.self.invariant c.as_slice.ensures.value c.from_residual.ensures c.in_err-place.ensures)

pub returns : goal.returns
returns c = subst (λ words. IsLeast words c.first_in-3.result) c.self.view_is
    (least_found c.self.inside.words.items c.self.inside.above.items c.self.inside.top.items c.as_slice-3.result.now c.as_slice-2.result.now c.as_slice.result.now c.in_ok-place.place c.in_ok-place-2.place c.first_in-3.result c.self.invariant c.as_slice-3.ensures.value c.as_slice-2.ensures.value c.as_slice.ensures.value c.in_ok-place.ensures c.in_ok-place-2.ensures c.first_in-3.ensures)
