-- The cells of one page more.
use Rattle.std.proofs.Common.{arith, ◌<◌, ◌++◌, ◌∙◌, ap, length}
use Rattle.std.specs.Arc.{arc_value}
use Rattle.ecf_versions.proofs.PlaceLaws.{one_pushed}
use Rattle.ecf_versions.proofs.rows.push_row.Goals as goal

pub loop-item-preserved : goal.loop-item-preserved
loop-item-preserved g c =
    let cells = g.P.Page.cells in
    let inside : c.loop-item.item-index < length c.args.items.now = omega arith in
    one_pushed cells c.args.items.now c.args.list.now.items c.loop-item.list.items c.push_cells.new.list.items c.loop-item.item-index c.item-item.result inside c.loop-item.invariant
    (c.in_ok-push_cells.ensures ∙ ap (λ page. c.loop-item.list.items ++ cells page) c.deref.ensures ∙ ap (λ item. c.loop-item.list.items ++ cells (arc_value item.page)) c.item-item.is)
