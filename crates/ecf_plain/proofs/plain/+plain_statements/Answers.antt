use Rattle.std.proofs.Common.{map, ap, sym, ◌∙◌, refl}
use Rattle.std.specs.Option.{option_map}
use Rattle.ecf_plain.specs.Plain.{every, last_plain, is_plain_stmt, is_plain_block, arms_plain}
use Rattle.ecf_plain.specs.PlainForms.{plain_let, plain_set, plain_set_at, plain_if, plain_while, plain_return, plain_revert, plain_block_is}
use Rattle.ecf_plain.proofs.PlainLaws.{and_both, so_far_more, all_were, arms_more, arms_were}
use Rattle.ecf_plain.proofs.plain.+plain_statements.Goals as goal

pub stmt_is_plain-returns-in-Let : goal.stmt_is_plain-returns-in-Let
stmt_is_plain-returns-in-Let t c = λ yes. ap is_plain_stmt c.in-Let.is ∙ plain_let _ _ _ ∙ c.expr_is_plain.ensures yes

pub stmt_is_plain-returns-in-Set : goal.stmt_is_plain-returns-in-Set
stmt_is_plain-returns-in-Set t c = λ yes. ap is_plain_stmt c.in-Set.is ∙ plain_set _ _ ∙ c.expr_is_plain-in-Set.ensures yes

pub stmt_is_plain-returns-then-expr_is_plain : goal.stmt_is_plain-returns-then-expr_is_plain
stmt_is_plain-returns-then-expr_is_plain t c = λ yes. ap is_plain_stmt c.in-SetAt.is ∙ plain_set_at _ _ _ ∙ and_both _ _ (c.expr_is_plain-in-SetAt.ensures c.if-expr_is_plain.true) (c.expr_is_plain-then-expr_is_plain.ensures yes)

pub stmt_is_plain-returns-then-expr_is_plain-2 : goal.stmt_is_plain-returns-then-expr_is_plain-2
stmt_is_plain-returns-then-expr_is_plain-2 t c = λ yes. ap is_plain_stmt c.in-While.is ∙ plain_while _ _ ∙ and_both _ _ (c.expr_is_plain-in-While.ensures c.if-expr_is_plain-2.true) (c.block_is_plain-then-expr_is_plain-2.ensures yes)

pub stmt_is_plain-returns-in-Return : goal.stmt_is_plain-returns-in-Return
stmt_is_plain-returns-in-Return t c = λ yes. ap is_plain_stmt c.in-Return.is ∙ plain_return _ ∙ c.expr_is_plain-in-Return.ensures yes

pub stmt_is_plain-returns-in-Revert : goal.stmt_is_plain-returns-in-Revert
stmt_is_plain-returns-in-Revert t c = λ yes. ap is_plain_stmt c.in-Revert.is ∙ plain_revert _ ∙ c.expr_is_plain-in-Revert.ensures yes

pub stmt_is_plain-loop-cond-init : goal.stmt_is_plain-loop-cond-init
stmt_is_plain-loop-cond-init t c = refl

pub stmt_is_plain-loop-cond-preserved : goal.stmt_is_plain-loop-cond-preserved
stmt_is_plain-loop-cond-preserved t c = arms_more c.as_slice-cond-items.result.now c.loop-cond.cond-index c.loop-cond-item.result c.loop-cond.invariant c.loop-cond-test.true c.loop-cond-item.is (c.expr_is_plain-in-loop-cond.ensures c.if-not-expr_is_plain.false) (c.block_is_plain.ensures c.if-not-block_is_plain.false)

pub stmt_is_plain-returns-in-Some : goal.stmt_is_plain-returns-in-Some
stmt_is_plain-returns-in-Some t c = λ yes.
    ap is_plain_stmt c.in-If.is ∙ plain_if _ _
    ∙ and_both _ _ (ap arms_plain (sym c.as_slice-cond-items.ensures) ∙ arms_were c.as_slice-cond-items.result.now c.loop-cond.cond-index c.loop-cond.invariant c.loop-cond-test.false) (ap (λ last. last_plain (option_map is_plain_block last)) c.in-Some.is ∙ c.block_is_plain-in-Some.ensures yes)

pub stmt_is_plain-returns-in-None : goal.stmt_is_plain-returns-in-None
stmt_is_plain-returns-in-None t c = λ yes.
    ap is_plain_stmt c.in-If.is ∙ plain_if _ _
    ∙ and_both _ _ (ap arms_plain (sym c.as_slice-cond-items.ensures) ∙ arms_were c.as_slice-cond-items.result.now c.loop-cond.cond-index c.loop-cond.invariant c.loop-cond-test.false) (ap (λ last. last_plain (option_map is_plain_block last)) c.in-None.is)

pub block_is_plain-loop-stmt-init : goal.block_is_plain-loop-stmt-init
block_is_plain-loop-stmt-init t c = refl

pub block_is_plain-loop-stmt-preserved : goal.block_is_plain-loop-stmt-preserved
block_is_plain-loop-stmt-preserved t c = so_far_more is_plain_stmt c.as_slice-stmt-items.result.now c.loop-stmt.stmt-index c.stmt-item.result c.loop-stmt.invariant c.loop-stmt-test.true c.stmt-item.is (c.stmt_is_plain.ensures c.if-not-stmt_is_plain.false)

pub block_is_plain-returns : goal.block_is_plain-returns
block_is_plain-returns t c = λ yes. plain_block_is c.args.block.now ∙ ap (λ stmts. every (map is_plain_stmt stmts)) (sym c.as_slice-stmt-items.ensures) ∙ all_were is_plain_stmt c.as_slice-stmt-items.result.now c.loop-stmt.stmt-index c.loop-stmt.invariant c.loop-stmt-test.false
