use Rattle.std.proofs.Common.{refl}
use Rattle.ecf_typing.proofs.StatementLaws.{block_passes, while_passes, return_passes, revert_passes, do_passes, if_passes, continues_end}
use Rattle.ecf_typing.proofs.statement.BodyCheck.+statements.Goals as goal

pub block-returns : goal.block-returns
block-returns t c =
    let passes = rw c.as_slice.ensures at c.in_ok-stmts.ensures in
    let cut = rw c.len-visible.ensures at c.truncate.ensures in
    block_passes _ _ c.args.block.now _ c.stmts.new.self _ _ passes cut refl refl

pub stmt-returns-in_ok-last-in-If : goal.stmt-returns-in_ok-last-in-If
stmt-returns-in_ok-last-in-If t c =
    let arms = continues_end _ _ _ _ _ _ _ c.loop-cond.invariant.so_far c.loop-cond-test.false in
    if_passes _ _ _ _ c.in-If.last _ c.loop-cond.self _ _ _ c.loop-cond.invariant.is arms c.in_ok-last-in-If.ensures

pub stmt-returns-in_ok-body-in-While : goal.stmt-returns-in_ok-body-in-While
stmt-returns-in_ok-body-in-While t c = while_passes _ _ _ _ _ _ _ _ _ _ c.in-While.is c.in_ok-cond-in-While.ensures c.in_ok-body-in-While.ensures

pub stmt-returns-in_ok-value-in-Return : goal.stmt-returns-in_ok-value-in-Return
stmt-returns-in_ok-value-in-Return t c = return_passes _ _ _ _ _ _ _ c.in-Return.is c.in_ok-value-in-Return.ensures

pub stmt-returns-in_ok-value-in-Revert : goal.stmt-returns-in_ok-value-in-Revert
stmt-returns-in_ok-value-in-Revert t c = revert_passes _ _ _ _ _ _ _ c.in-Revert.is c.in_ok-value-in-Revert.ensures

pub stmt-returns-in_ok-call-in-Do : goal.stmt-returns-in_ok-call-in-Do
stmt-returns-in_ok-call-in-Do t c = do_passes _ _ _ _ _ _ _ c.in-Do.is c.in_ok-call-in-Do.ensures.says c.in_ok-call-in-Do.ensures.noted c.in_ok-call-in-Do.ensures.same
