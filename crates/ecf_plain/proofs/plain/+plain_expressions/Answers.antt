use Rattle.std.proofs.Common.{◌≡◌, true, drop, ap, sym, ◌∙◌, refl}
use Rattle.ecf_plain.specs.Plain.{is_plain, are_plain, parts_plain}
use Rattle.ecf_plain.specs.PlainForms.{plain_number, plain_flag, plain_here, plain_name, plain_at, plain_not, plain_product, plain_sum, plain_compare, plain_and, plain_or}
use Rattle.ecf_plain.proofs.PlainLaws.{and_both, so_far_more, all_were, parts_more, parts_were}
use Rattle.ecf_plain.proofs.plain.+plain_expressions.Goals as goal

pub expr_is_plain-returns-in-Number : goal.expr_is_plain-returns-in-Number
expr_is_plain-returns-in-Number t c = λ yes. ap is_plain c.in-Number.is ∙ plain_number _

pub expr_is_plain-returns-in-Flag : goal.expr_is_plain-returns-in-Flag
expr_is_plain-returns-in-Flag t c = λ yes. ap is_plain c.in-Flag.is ∙ plain_flag _

pub expr_is_plain-returns-in-Here : goal.expr_is_plain-returns-in-Here
expr_is_plain-returns-in-Here t c = λ yes. ap is_plain c.in-Here.is ∙ plain_here

pub expr_is_plain-returns-in-Name : goal.expr_is_plain-returns-in-Name
expr_is_plain-returns-in-Name t c = λ yes. ap is_plain c.in-Name.is ∙ plain_name _

pub expr_is_plain-returns-in-At : goal.expr_is_plain-returns-in-At
expr_is_plain-returns-in-At t c = λ yes. ap is_plain c.in-At.is ∙ plain_at _ _ ∙ ap is_plain (sym c.get.ensures) ∙ c.expr_is_plain.ensures yes

pub expr_is_plain-returns-in-Not : goal.expr_is_plain-returns-in-Not
expr_is_plain-returns-in-Not t c = λ yes. ap is_plain c.in-Not.is ∙ plain_not _ ∙ ap is_plain (sym c.get-in-Not.ensures) ∙ c.expr_is_plain-in-Not.ensures yes

pub expr_is_plain-returns-then-expr_is_plain : goal.expr_is_plain-returns-then-expr_is_plain
expr_is_plain-returns-then-expr_is_plain t c = λ yes.
    ap is_plain c.in-Product.is ∙ plain_product _ _
    ∙ and_both _ _ (ap is_plain (sym c.get-in-Product.ensures) ∙ c.expr_is_plain-in-Product.ensures c.if-expr_is_plain.true) (ap parts_plain (sym c.as_slice.ensures) ∙ c.further_are_plain.ensures yes)

pub expr_is_plain-returns-then-expr_is_plain-2 : goal.expr_is_plain-returns-then-expr_is_plain-2
expr_is_plain-returns-then-expr_is_plain-2 t c = λ yes.
    ap is_plain c.in-Sum.is ∙ plain_sum _ _
    ∙ and_both _ _ (ap is_plain (sym c.get-in-Sum.ensures) ∙ c.expr_is_plain-in-Sum.ensures c.if-expr_is_plain-2.true) (ap parts_plain (sym c.as_slice-then-expr_is_plain-2.ensures) ∙ c.further_are_plain-then-expr_is_plain-2.ensures yes)

pub expr_is_plain-returns-then-expr_is_plain-3 : goal.expr_is_plain-returns-then-expr_is_plain-3
expr_is_plain-returns-then-expr_is_plain-3 t c = λ yes.
    ap is_plain c.in-Compare.is ∙ plain_compare _ _ _
    ∙ and_both _ _ (ap is_plain (sym c.get-in-Compare.ensures) ∙ c.expr_is_plain-in-Compare.ensures c.if-expr_is_plain-3.true) (ap is_plain (sym c.get-then-expr_is_plain-3.ensures) ∙ c.expr_is_plain-then-expr_is_plain-3.ensures yes)

pub expr_is_plain-returns-in-And : goal.expr_is_plain-returns-in-And
expr_is_plain-returns-in-And t c = λ yes. ap is_plain c.in-And.is ∙ plain_and _ ∙ ap are_plain (sym c.as_slice-in-And.ensures) ∙ c.exprs_are_plain.ensures yes

pub expr_is_plain-returns-in-Or : goal.expr_is_plain-returns-in-Or
expr_is_plain-returns-in-Or t c = λ yes. ap is_plain c.in-Or.is ∙ plain_or _ ∙ ap are_plain (sym c.as_slice-in-Or.ensures) ∙ c.exprs_are_plain-in-Or.ensures yes

pub further_are_plain-loop-part-init : goal.further_are_plain-loop-part-init
further_are_plain-loop-part-init t c = refl

pub further_are_plain-loop-part-preserved : goal.further_are_plain-loop-part-preserved
further_are_plain-loop-part-preserved t c = parts_more c.args.parts.now c.loop-part.part-index c.part-item.result c.loop-part.invariant c.loop-part-test.true c.part-item.is (c.expr_is_plain.ensures c.if-not-expr_is_plain.false)

pub further_are_plain-returns : goal.further_are_plain-returns
further_are_plain-returns t c = λ yes. parts_were c.args.parts.now c.loop-part.part-index c.loop-part.invariant c.loop-part-test.false

pub exprs_are_plain-loop-expr-init : goal.exprs_are_plain-loop-expr-init
exprs_are_plain-loop-expr-init t c = refl

pub exprs_are_plain-loop-expr-preserved : goal.exprs_are_plain-loop-expr-preserved
exprs_are_plain-loop-expr-preserved t c = so_far_more is_plain c.args.exprs.now c.loop-expr.expr-index c.expr-item.result c.loop-expr.invariant c.loop-expr-test.true c.expr-item.is (c.expr_is_plain.ensures c.if-not-expr_is_plain.false)

pub exprs_are_plain-returns : goal.exprs_are_plain-returns
exprs_are_plain-returns t c = λ yes. all_were is_plain c.args.exprs.now c.loop-expr.expr-index c.loop-expr.invariant c.loop-expr-test.false
