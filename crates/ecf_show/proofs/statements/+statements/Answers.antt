use Rattle.std.proofs.Common.{◌∷◌}
use Rattle.ecf_show.specs.Marks.Mark.{Line}
use Rattle.ecf_show.specs.Statements.{stmt_marks}
use Rattle.ecf_show.proofs.TextLaws.{item_written, items_written}
use Rattle.ecf_show.proofs.StatementLaws.{let_written, try_written, set_written, set_at_written, one_arm_more, if_written, while_written, return_written, revert_written, do_written, lines_written, line_written}
use Rattle.ecf_show.proofs.statements.+statements.Goals as goal

pub write_stmt-returns-in_ok-write_declared-in-Let : goal.write_stmt-returns-in_ok-write_declared-in-Let
write_stmt-returns-in_ok-write_declared-in-Let t c =
    let_written _ _ _ _ _ _ _ _ _ _ _ c.in-Let.is c.in_ok-extend_from_slice-in-Let.ensures.items c.in_ok-write_declared-in-Let.ensures c.write_assigned.ensures

pub write_stmt-returns-in_ok-push-in-Try : goal.write_stmt-returns-in_ok-push-in-Try
write_stmt-returns-in_ok-push-in-Try t c =
    try_written _ _ _ _ _ _ _ _ _ _ _ _ c.in-Try.is c.in_ok-extend_from_slice-in-Try.ensures.items c.in_ok-write_declared-in-Try.ensures c.in_ok-extend_from_slice-in-Try-2.ensures.items c.in_ok-write_tried-in-Try.ensures c.in_ok-push-in-Try.ensures.items

pub write_stmt-returns-in_ok-write_name-in-Set : goal.write_stmt-returns-in_ok-write_name-in-Set
write_stmt-returns-in_ok-write_name-in-Set t c =
    set_written _ _ _ _ _ _ _ _ _ c.in-Set.is c.in_ok-write_name-in-Set.ensures c.write_assigned-in-Set.ensures

pub write_stmt-returns-in_ok-push-in-SetAt-2 : goal.write_stmt-returns-in_ok-push-in-SetAt-2
write_stmt-returns-in_ok-push-in-SetAt-2 t c =
    set_at_written _ _ _ _ _ _ _ _ _ _ _ _ _ c.in-SetAt.is c.in_ok-write_name-in-SetAt.ensures c.in_ok-push-in-SetAt.ensures.items c.in_ok-write_expr-in-SetAt.ensures c.in_ok-push-in-SetAt-2.ensures.items c.write_assigned-in-SetAt.ensures

pub write_stmt-loop-cond-preserved : goal.write_stmt-loop-cond-preserved
write_stmt-loop-cond-preserved t c = record {
  is = c.loop-cond.invariant.is;
  arms = one_arm_more _ _ _ _ _ _ _ _ _ _ c.loop-cond.invariant.arms c.loop-cond-test.true c.loop-cond-item.is c.in_ok-extend_from_slice-in-If.ensures.items c.in_ok-write_condition-in-If.ensures c.in_ok-write_block-in-If.ensures;
}

pub write_stmt-returns-after-loop-cond : goal.write_stmt-returns-after-loop-cond
write_stmt-returns-after-loop-cond t c = if_written _ _ _ _ _ _ _ _ _ _ c.loop-cond.invariant.is c.loop-cond.invariant.arms c.loop-cond-test.false c.write_last.ensures

pub write_stmt-returns-in_ok-write_condition-in-While : goal.write_stmt-returns-in_ok-write_condition-in-While
write_stmt-returns-in_ok-write_condition-in-While t c =
    while_written _ _ _ _ _ _ _ _ _ c.in-While.is c.in_ok-extend_from_slice-in-While.ensures.items c.in_ok-write_condition-in-While.ensures c.write_block-in-While.ensures

pub write_stmt-returns-in_ok-extend_from_slice-in-Return : goal.write_stmt-returns-in_ok-extend_from_slice-in-Return
write_stmt-returns-in_ok-extend_from_slice-in-Return t c =
    return_written _ _ _ _ _ _ _ c.in-Return.is c.in_ok-extend_from_slice-in-Return.ensures.items c.write_ended.ensures

pub write_stmt-returns-in_ok-extend_from_slice-in-Revert : goal.write_stmt-returns-in_ok-extend_from_slice-in-Revert
write_stmt-returns-in_ok-extend_from_slice-in-Revert t c =
    revert_written _ _ _ _ _ _ _ c.in-Revert.is c.in_ok-extend_from_slice-in-Revert.ensures.items c.write_ended-in-Revert.ensures

pub write_stmt-returns-in_ok-push-in-Do : goal.write_stmt-returns-in_ok-push-in-Do
write_stmt-returns-in_ok-push-in-Do t c = do_written _ _ _ _ _ _ c.in-Do.is c.in_ok-write_call-in-Do.ensures c.in_ok-push-in-Do.ensures.items

pub write_lines-loop-stmt-preserved : goal.write_lines-loop-stmt-preserved
write_lines-loop-stmt-preserved t c =
    item_written (λ stmt. Line c.args.depth ∷ stmt_marks stmt c.args.depth) c.args.stmts.now c.loop-stmt.stmt-index c.stmt-item.result _ _ _ c.loop-stmt.invariant c.loop-stmt-test.true c.stmt-item.is
    (line_written c.args.depth (stmt_marks c.stmt-item.result c.args.depth) _ _ _ c.in_ok-write_line.ensures c.in_ok-write_stmt.ensures)

pub write_lines-returns : goal.write_lines-returns
write_lines-returns t c =
    lines_written c.args.depth stmt_marks c.args.stmts.now _ _ (items_written (λ stmt. Line c.args.depth ∷ stmt_marks stmt c.args.depth) c.args.stmts.now c.loop-stmt.stmt-index _ _ c.loop-stmt.invariant c.loop-stmt-test.false)
