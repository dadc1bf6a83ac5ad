-- A row cut before the page in its middle.
use Rattle.std.proofs.Common.{arith, ◌<◌, ◌/◌, ℕ, length}
use Rattle.ecf_versions.proofs.RowLaws.{halved}
use Rattle.ecf_versions.proofs.rows.halve_row.Goals as goal

pub returns-clause-halves : goal.returns-clause-halves
returns-clause-halves g c =
    let half : ℕ = c.len.result / 2 in
    let above : 0 < half = omega arith in
    let inside : half < length c.args.items.items = omega arith in
    halved g.P.Page.cells c.args.items.items c.split_off.new.self.items c.in_ok-rest.rest.items half c.index.result.now above inside c.in_ok-rest.ensures.items c.in_ok-rest.ensures.tail c.index.ensures c.requires.row
