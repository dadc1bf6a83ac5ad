use Rattle.std.proofs.Common.{sym, subst}
use Rattle.ecf_versions.specs.Rows.{pages_of, IsPlace}
use Rattle.ecf_versions.proofs.PlaceLaws.{place_found, place_gap, least_cells_rise}
use Rattle.ecf_versions.proofs.rows.place.Goals as goal

pub search-requires : goal.search-requires
search-requires g c = least_cells_rise g.P.Page.cells c.args.items.now c.requires.row.paged

pub returns-in-Ok : goal.returns-in-Ok
returns-in-Ok g c = place_found g.P.Page.cells c.args.items.now c.args.cell _ c.in-Ok.ensures

pub returns-in-Err : goal.returns-in-Err
returns-in-Err g c = subst (IsPlace (pages_of g.P.Page.cells c.args.items.now) c.args.cell) (sym c.saturating_sub.ensures) (place_gap g.P.Page.cells c.args.items.now c.args.cell c.in-Err.at c.requires.some c.in-Err.ensures)
