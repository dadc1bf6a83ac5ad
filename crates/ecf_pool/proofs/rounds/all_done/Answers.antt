use Rattle.std.proofs.Common.{arith}
use Rattle.ecf_pool.proofs.RoundLaws.{all_rows}
use Rattle.ecf_pool.proofs.rounds.all_done.Goals as goal

pub loop-row-init : goal.loop-row-init
loop-row-init c = c.settled-row.ensures.done

pub returns : goal.returns
returns c =
    let count = c.rows-row-end.ensures.rows in
    let done = c.loop-row-test.false in
    λ is. all_rows c.args.book.now (λ r below. c.loop-row.invariant r (omega arith))
