use Rattle.std.proofs.Common.{arith}
use Rattle.ecf_book.proofs.EndLaws.{placing_may, placed_first, placed_next, placed_all, placed_part}
use Rattle.ecf_book.proofs.FindLaws.{on_err}
use Rattle.ecf_book.proofs.book.Book.place_open.Goals as goal

pub place_row-requires-clause-may : goal.place_row-requires-clause-may
place_row-requires-clause-may c open_ = placing_may c.args.self.now c.loop-row.self c.loop-row.row c.loop-row.invariant (omega arith) c.requires open_

pub returns-in_err-place_row-clause-err : goal.returns-in_err-place_row-clause-err
returns-in_err-place_row-clause-err c = on_err c.from_residual.result (placed_part c.args.self.now c.loop-row.self c.place_row.new.self c.loop-row.row c.loop-row.invariant (omega arith) c.in_err-place_row.ensures.open c.in_err-place_row.ensures.err)

pub loop-row-init : goal.loop-row-init
loop-row-init c = placed_first c.args.self.now c.settled-settled.result c.settled-settled.ensures.done

pub loop-row-preserved : goal.loop-row-preserved
loop-row-preserved c = placed_next c.args.self.now c.loop-row.self c.place_row.new.self c.loop-row.row c.loop-row.invariant (omega arith) c.in_ok-place_row.ensures.ok

pub returns-clause-ok : goal.returns-clause-ok
returns-clause-ok c = placed_all c.args.self.now c.loop-row.self c.loop-row.row c.loop-row.invariant (omega arith)
