-- The cells of the pages so far are in the list.
use Rattle.std.proofs.Common.{◌≡◌, ◌++◌, take}
use Rattle.ecf_versions.specs.Pages.{cells_of}
use Rattle.ecf_versions.specs.Rows.{pages_of}
use Rattle.ecf_versions.proofs.rows.push_row.Given as goal

abbrev pub invariant-loop-item : goal.invariant-loop-item
invariant-loop-item g l = l.list.items ≡ l.initial.list.items ++ cells_of (take l.item-index (pages_of g.P.Page.cells l.items))
