-- The pages so far are in the copy.
use Rattle.std.proofs.Common.{◌≡◌, take}
use Rattle.ecf_versions.specs.Rows.{pages_of}
use Rattle.ecf_versions.proofs.rows.share_row.Given as goal

abbrev pub invariant-loop-item : goal.invariant-loop-item
invariant-loop-item g l = pages_of g.P.Page.cells l.copy.items ≡ take l.item-index (pages_of g.P.Page.cells l.items)
