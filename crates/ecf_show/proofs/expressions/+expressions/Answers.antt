use Rattle.std.proofs.Common.{◌-◌, [], ◌∷◌, ◌++◌, length, take, drop, ap, ◌∙◌, arith}
use Rattle.ecf_grammar.specs.declared.tokens.Sign.TheVariants.{And, Or}
use Rattle.ecf_grammar.specs.declared.tokens.Word.TheVariants.{Here}
use Rattle.ecf_show.specs.declared.levels.TheConstants.{AND, COMPARE}
use Rattle.ecf_show.specs.Marks.{word_mark, spaced, comma}
use Rattle.ecf_show.specs.Expressions.{shown, expr_marks, op_sign, part, further_part}
use Rattle.ecf_show.specs.Forms.{shown_number, shown_flag, shown_here, shown_name, shown_called, shown_and, shown_or}
use Rattle.ecf_show.proofs.TextLaws.{item_written, items_written, wrote_then}
use Rattle.ecf_show.proofs.ExpressionLaws.{extended, form_written, at_written, not_written, product_written, sum_written, compare_written, further_written, steps_written, external_written, internal_written, call_external, call_internal}
use Rattle.ecf_show.proofs.expressions.+expressions.Goals as goal

pub write_expr-returns-in-Number : goal.write_expr-returns-in-Number
write_expr-returns-in-Number t c = form_written _ _ _ _ _ (ap shown c.in-Number.is ∙ shown_number _ _) c.write_number.ensures

pub write_expr-returns-in-Flag : goal.write_expr-returns-in-Flag
write_expr-returns-in-Flag t c = form_written _ _ _ _ _ (ap shown c.in-Flag.is ∙ shown_flag _ _) c.write_flag.ensures

pub write_expr-returns-in-Name : goal.write_expr-returns-in-Name
write_expr-returns-in-Name t c = form_written _ _ _ _ _ (ap shown c.in-Name.is ∙ shown_name _ _) c.write_name.ensures

pub write_expr-returns-in_ok-push-in-At-2 : goal.write_expr-returns-in_ok-push-in-At-2
write_expr-returns-in_ok-push-in-At-2 t c =
    let inner = rw c.get.ensures at c.in_ok-write_expr-in-At.ensures in
    at_written _ _ _ _ _ _ _ _ _ c.in-At.is c.in_ok-write_name-in-At.ensures c.in_ok-push-in-At.ensures.items inner c.in_ok-push-in-At-2.ensures.items

pub write_expr-returns-in-Call : goal.write_expr-returns-in-Call
write_expr-returns-in-Call t c = form_written _ _ _ _ _ (ap shown c.in-Call.is ∙ shown_called _) c.write_call.ensures

pub write_expr-returns-in-Here : goal.write_expr-returns-in-Here
write_expr-returns-in-Here t c = form_written _ _ _ _ _ (ap shown c.in-Here.is ∙ shown_here _) (extended _ _ _ (word_mark Here ∷ []) c.extend_from_slice.ensures.items)

pub write_expr-returns-in_ok-push-in-Not : goal.write_expr-returns-in_ok-push-in-Not
write_expr-returns-in_ok-push-in-Not t c =
    let inner = rw c.get-in-Not.ensures at c.write_part.ensures in
    not_written _ _ _ _ _ _ _ c.in-Not.is c.in_ok-push-in-Not.ensures.items inner

pub write_expr-returns-in_ok-write_part-in-Product : goal.write_expr-returns-in_ok-write_part-in-Product
write_expr-returns-in_ok-write_part-in-Product t c =
    let first = rw c.get-in-Product.ensures at c.in_ok-write_part-in-Product.ensures in
    let further = rw c.as_slice.ensures at c.write_further.ensures in
    product_written _ _ _ _ _ _ _ c.in-Product.is first further

pub write_expr-returns-in_ok-write_part-in-Sum : goal.write_expr-returns-in_ok-write_part-in-Sum
write_expr-returns-in_ok-write_part-in-Sum t c =
    let first = rw c.get-in-Sum.ensures at c.in_ok-write_part-in-Sum.ensures in
    let further = rw c.as_slice-in-Sum.ensures at c.write_further-in-Sum.ensures in
    sum_written _ _ _ _ _ _ _ c.in-Sum.is first further

pub write_expr-returns-in_ok-write_op-in-Compare : goal.write_expr-returns-in_ok-write_op-in-Compare
write_expr-returns-in_ok-write_op-in-Compare t c =
    let first = rw c.get-in-Compare.ensures at c.in_ok-write_part-in-Compare.ensures in
    let last = rw c.get-in-Compare-2.ensures at c.write_part-in-Compare-2.ensures in
    compare_written _ _ _ _ _ _ _ _ _ c.in-Compare.is first c.in_ok-write_op-in-Compare.ensures last

pub write_expr-returns-in-And : goal.write_expr-returns-in-And
write_expr-returns-in-And t c =
    let parts = rw c.as_slice-in-And.ensures at c.write_conjunction.ensures in
    form_written _ _ _ _ _ (ap shown c.in-And.is ∙ shown_and _) parts

pub write_expr-returns-in-Or : goal.write_expr-returns-in-Or
write_expr-returns-in-Or t c =
    let parts = rw c.as_slice-in-Or.ensures at c.write_disjunction.ensures in
    form_written _ _ _ _ _ (ap shown c.in-Or.is ∙ shown_or _) parts

pub write_call-returns-in_ok-extend_from_slice-in-External : goal.write_call-returns-in_ok-extend_from_slice-in-External
write_call-returns-in_ok-extend_from_slice-in-External t c =
    call_external _ _ _ _ _ _ _ _ _ _ c.in-External.is c.in_ok-extend_from_slice-in-External.ensures.items c.write_tried.ensures

pub write_call-returns-in-Internal : goal.write_call-returns-in-Internal
write_call-returns-in-Internal t c = call_internal _ _ _ _ _ _ _ _ c.in-Internal.is c.write_tried-in-Internal.ensures

pub write_tried-returns-in_ok-push-in-External : goal.write_tried-returns-in_ok-push-in-External
write_tried-returns-in_ok-push-in-External t c =
    let target = rw c.get.ensures at c.in_ok-write_part-in-External.ensures in
    let invoked = rw c.as_slice.ensures at c.write_invoked.ensures in
    external_written _ _ _ _ _ _ _ _ _ _ _ c.in-External.is target c.in_ok-push-in-External.ensures.items invoked

pub write_tried-returns-in_ok-extend_from_slice-in-Internal : goal.write_tried-returns-in_ok-extend_from_slice-in-Internal
write_tried-returns-in_ok-extend_from_slice-in-Internal t c =
    let invoked = rw c.as_slice-in-Internal.ensures at c.write_invoked-in-Internal.ensures in
    internal_written _ _ _ _ _ _ _ _ _ c.in-Internal.is c.in_ok-extend_from_slice-in-Internal.ensures.items invoked

pub write_further-loop-op-preserved : goal.write_further-loop-op-preserved
write_further-loop-op-preserved t c =
    item_written (λ p. further_part c.args.required (p.0, shown p.1)) c.args.rest.now c.loop-op.op-index c.loop-op-item.result _ _ _ c.loop-op.invariant c.loop-op-test.true c.loop-op-item.is
    (wrote_then _ _ _ (spaced (op_sign c.loop-op-item.result.0)) (part c.args.required (shown c.loop-op-item.result.1)) c.in_ok-write_op.ensures c.in_ok-write_part.ensures)

pub write_further-returns : goal.write_further-returns
write_further-returns t c =
    further_written _ _ _ _ (items_written (λ p. further_part c.args.required (p.0, shown p.1)) c.args.rest.now c.loop-op.op-index _ _ c.loop-op.invariant c.loop-op-test.false)

pub write_conjunction-loop-expr-preserved : goal.write_conjunction-loop-expr-preserved
write_conjunction-loop-expr-preserved t c =
    item_written (λ e. spaced And ++ part COMPARE (shown e)) (take (length c.args.parts.now - 1) (drop 1 c.args.parts.now)) c.loop-expr.expr-index c.expr-item.result _ _ _ c.loop-expr.invariant c.loop-expr-test.true c.expr-item.is
    (wrote_then _ _ _ (spaced And) (part COMPARE (shown c.expr-item.result)) c.in_ok-extend_from_slice.ensures.items c.in_ok-write_part-2.ensures)

pub write_conjunction-returns : goal.write_conjunction-returns
write_conjunction-returns t c =
    steps_written (spaced And) (part COMPARE) shown c.args.parts.now c.first-item.result c.loop-expr.expr-index _ _ _ (omega (arith, c.in-len1-up.len_at_least)) c.first-item.is c.in_ok-write_part.ensures c.loop-expr.invariant c.loop-expr-test.false

pub write_disjunction-loop-expr-preserved : goal.write_disjunction-loop-expr-preserved
write_disjunction-loop-expr-preserved t c =
    item_written (λ e. spaced Or ++ part AND (shown e)) (take (length c.args.parts.now - 1) (drop 1 c.args.parts.now)) c.loop-expr.expr-index c.expr-item.result _ _ _ c.loop-expr.invariant c.loop-expr-test.true c.expr-item.is
    (wrote_then _ _ _ (spaced Or) (part AND (shown c.expr-item.result)) c.in_ok-extend_from_slice.ensures.items c.in_ok-write_part-2.ensures)

pub write_disjunction-returns : goal.write_disjunction-returns
write_disjunction-returns t c =
    steps_written (spaced Or) (part AND) shown c.args.parts.now c.first-item.result c.loop-expr.expr-index _ _ _ (omega (arith, c.in-len1-up.len_at_least)) c.first-item.is c.in_ok-write_part.ensures c.loop-expr.invariant c.loop-expr-test.false

pub write_arguments-loop-arg-preserved : goal.write_arguments-loop-arg-preserved
write_arguments-loop-arg-preserved t c =
    item_written (λ arg. comma ++ expr_marks arg) (take (length c.args.args.now - 1) (drop 1 c.args.args.now)) c.loop-arg.arg-index c.arg-item.result _ _ _ c.loop-arg.invariant c.loop-arg-test.true c.arg-item.is
    (wrote_then _ _ _ comma (expr_marks c.arg-item.result) c.in_ok-extend_from_slice.ensures.items c.in_ok-write_expr-2.ensures)

pub write_arguments-returns : goal.write_arguments-returns
write_arguments-returns t c =
    steps_written comma (λ arg. arg.marks) shown c.args.args.now c.first-item.result c.loop-arg.arg-index _ _ _ (omega (arith, c.in-len1-up.len_at_least)) c.first-item.is c.in_ok-write_expr.ensures c.loop-arg.invariant c.loop-arg-test.false
