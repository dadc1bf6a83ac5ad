use Rattle.std.proofs.Common.{length, ap}
use Rattle.ecf_pool.proofs.RoundLaws.{round_err, round_ok}
use Rattle.ecf_pool.proofs.rounds.round_of.Goals as goal

pub returns-clause-ok : goal.returns-clause-ok
returns-clause-ok g c =
    round_ok c.args.book c.in_ok-book.book c.in_ok-book.ensures.book (g.Q.Quit.may c.args.quit.now) c.in_ok-book.gave_up c.in_ok-book.ensures.cause _ (ap length c.log-before.ensures) c.settle.result
    c.settle.ensures.setup c.settle.ensures.same c.settle.ensures.round c.settle.ensures.done

pub returns-clause-err : goal.returns-clause-err
returns-clause-err g c = round_err c.args.book c.in_ok-book.book c.in_ok-book.ensures.book c.settle.result c.settle.ensures.err
