use Rattle.std.proofs.Common.{arith}
use Rattle.ecf_book.proofs.EndLaws.{known_later, reclaimed_first, reclaimed_next, reclaimed_all}
use Rattle.ecf_book.proofs.book.Book.reclaim.Goals as goal

pub loop-row-init : goal.loop-row-init
loop-row-init c = reclaimed_first c.args.self.now c.settled-settled.result c.settled-settled.ensures.done

pub loop-row-preserved : goal.loop-row-preserved
loop-row-preserved c = reclaimed_next c.args.self.now c.loop-row.self _ c.loop-row.row c.loop-row.count _ c.loop-row.invariant c.reclaim_row-count.ensures.added c.reclaim_row-count.ensures.count

pub reclaim_row-count-requires : goal.reclaim_row-count-requires
reclaim_row-count-requires c = known_later c.args.self.now c.loop-row.self c.loop-row.invariant.done c.loop-row.row c.loop-row.invariant.added (omega arith)

pub returns : goal.returns
returns c = reclaimed_all c.args.self.now c.loop-row.self c.loop-row.row c.loop-row.count c.loop-row.invariant (omega arith)
