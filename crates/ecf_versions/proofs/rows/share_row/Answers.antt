-- One page more is shared.
use Rattle.std.proofs.Common.{arith, ◌<◌, ◌∙◌, ap, length}
use Rattle.ecf_versions.proofs.PlaceLaws.{page_of, one_shared}
use Rattle.ecf_versions.proofs.rows.share_row.Goals as goal

pub loop-item-preserved : goal.loop-item-preserved
loop-item-preserved g c =
    let cells = g.P.Page.cells in
    let inside : c.loop-item.item-index < length c.args.items.now = omega arith in
    one_shared cells c.args.items.now c.loop-item.copy.items c.push.new.self.items c.loop-item.item-index c.item-item.result _ inside c.loop-item.invariant c.in_ok-push.ensures.items
    (ap (λ page. (c.item-item.result.from, cells page)) c.in_ok-try_clone.ensures ∙ ap (page_of cells) c.item-item.is)
