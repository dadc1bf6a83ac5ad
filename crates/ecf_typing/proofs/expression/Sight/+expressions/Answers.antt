use Rattle.std.proofs.Common.{sym, ap, ◌∙◌}
use Rattle.std.specs.Option.{option_map}
use Rattle.ecf_typing.specs.Views.{signature_view}
use Rattle.ecf_typing.proofs.LoopLaws.{if_ok_then, made_more}
use Rattle.ecf_lang.specs.declared.typed.TypedExpr.{TypedExpr}
use Rattle.ecf_typing.specs.declared.form.Summary.{Summary}
use Rattle.ecf_typing.proofs.ExpressionLaws.{args_more, call_summary, external_summary, found_seen, flag_summary, here_summary, at_summary, product_summary, and_summary, or_summary, internal_summary, number_summary, not_summary, sum_summary, compare_summary}
use Rattle.ecf_typing.proofs.expression.Sight.+expressions.Goals as goal

pub expr-returns-in-Number : goal.expr-returns-in-Number
expr-returns-in-Number t c = number_summary _ _ _ _ _ _ _ c.in-Number.is c.number.ensures

pub expr-returns-in_ok-inner-in-Not : goal.expr-returns-in_ok-inner-in-Not
expr-returns-in_ok-inner-in-Not t c =
    let fits = rw c.get-in-Not.ensures at c.in_ok-inner-in-Not.ensures in
    if_ok_then c.not.result _ _ c.not.ensures (λ k was. not_summary _ _ _ _ _ _ _ _ k c.in-Not.is fits was)

pub expr-returns-in_ok-rest-in-Sum : goal.expr-returns-in_ok-rest-in-Sum
expr-returns-in_ok-rest-in-Sum t c =
    let fits = rw c.get-in-Sum.ensures at c.in_ok-first-in-Sum.ensures in
    let form = rw c.as_slice-in-Sum.ensures at c.in_ok-rest-in-Sum.ensures.form in
    let noted = rw c.as_slice-in-Sum.ensures at c.in_ok-rest-in-Sum.ensures.faults in
    if_ok_then c.sum.result _ _ c.sum.ensures (λ k was. sum_summary _ _ _ _ _ _ _ _ _ k _ c.in-Sum.is fits form noted was)

pub expr-returns-in_ok-right-in-Compare : goal.expr-returns-in_ok-right-in-Compare
expr-returns-in_ok-right-in-Compare t c =
    let fits_a = rw (c.left_side_type.ensures, c.get-in-Compare.ensures) at c.in_ok-left-in-Compare.ensures in
    let fits_b = rw (c.right_side_type.ensures, c.get-in-Compare-2.ensures) at c.in_ok-right-in-Compare.ensures in
    if_ok_then c.compare.result _ _ c.compare.ensures (λ k was. compare_summary _ _ _ _ _ _ _ _ _ _ _ k c.in-Compare.is fits_a fits_b was)

pub expr-returns-in_ok-call-in-Call : goal.expr-returns-in_ok-call-in-Call
expr-returns-in_ok-call-in-Call t c = call_summary _ _ _ _ _ _ _ c.in-Call.is c.in_ok-call-in-Call.ensures

pub call-returns-in_ok-args-in-External : goal.call-returns-in_ok-args-in-External
call-returns-in_ok-args-in-External t c =
    let method = ap (option_map signature_view) (rw c.as_bytes.ensures at c.get-method.ensures) ∙ sym (found_seen signature_view _ c.in-External.name) in
    let target = rw c.get.ensures at c.in_ok-target-in-External.ensures in
    let arity = rw c.len.ensures at c.note_arity-params.ensures.faults in
    let tys = rw c.len.ensures at c.note_arity-params.ensures.params in
    let form = rw c.as_slice.ensures at c.in_ok-args-in-External.ensures.form in
    let noted = rw c.as_slice.ensures at c.in_ok-args-in-External.ensures.faults in
    if_ok_then c.external.result _ _ c.external.ensures (λ k was. external_summary _ _ _ _ _ _ _ _ _ _ _ _ _ _ _ _ k c.in-External.is method target arity tys form noted was)

pub args-loop-i-preserved : goal.args-loop-i-preserved
args-loop-i-preserved t c =
    let fits = rw c.param_type-want.ensures at c.in_ok-needs.ensures in
    record {
      form = made_more _ c.args.args.now c.loop-i.i c.index-args-i.result _ _ _ c.loop-i.invariant.form c.loop-i-test.true c.index-args-i.is c.in_ok-push.ensures.ok (ap (λ (x : Summary TypedExpr). x.form) fits.says);
      faults = args_more _ _ c.args.args.now c.loop-i.i c.index-args-i.result _ _ _ c.loop-i.invariant.faults c.loop-i-test.true c.index-args-i.is fits.noted;
    }

pub expr-returns-in-Flag : goal.expr-returns-in-Flag
expr-returns-in-Flag t c = flag_summary _ _ _ _ _ _ _ c.in-Flag.is c.flag.ensures

pub expr-returns-in-Here : goal.expr-returns-in-Here
expr-returns-in-Here t c = here_summary _ _ _ _ _ _ c.in-Here.is c.here.ensures

pub expr-returns-in_ok-key-in-At : goal.expr-returns-in_ok-key-in-At
expr-returns-in_ok-key-in-At t c =
    let own = rw c.as_bytes.ensures at c.get-own.ensures in
    let fits = rw (c.key_type.ensures, c.get.ensures) at c.in_ok-key-in-At.ensures in
    if_ok_then c.index.result _ _ c.index.ensures (λ k was. at_summary _ _ _ _ _ _ _ _ _ _ _ k c.in-At.is own c.note_map.ensures fits was)

pub expr-returns-in_ok-rest-in-Product : goal.expr-returns-in_ok-rest-in-Product
expr-returns-in_ok-rest-in-Product t c =
    let fits = rw c.get-in-Product.ensures at c.in_ok-first-in-Product.ensures in
    let form = rw c.as_slice.ensures at c.in_ok-rest-in-Product.ensures.form in
    let noted = rw c.as_slice.ensures at c.in_ok-rest-in-Product.ensures.faults in
    if_ok_then c.product.result _ _ c.product.ensures (λ k was. product_summary _ _ _ _ _ _ _ _ _ k _ c.in-Product.is fits form noted was)

pub expr-returns-in_ok-place-in-And : goal.expr-returns-in_ok-place-in-And
expr-returns-in_ok-place-in-And t c =
    let place = rw c.as_slice-in-And.ensures at c.in_ok-place-in-And.ensures.place in
    let form = rw c.as_slice-in-And.ensures at c.in_ok-place-in-And.ensures.form in
    let noted = rw c.as_slice-in-And.ensures at c.in_ok-place-in-And.ensures.faults in
    and_summary _ _ _ _ _ _ _ _ _ c.in-And.is place form noted c.plain_summary.ensures

pub expr-returns-in_ok-place-in-Or : goal.expr-returns-in_ok-place-in-Or
expr-returns-in_ok-place-in-Or t c =
    let place = rw c.as_slice-in-Or.ensures at c.in_ok-place-in-Or.ensures.place in
    let form = rw c.as_slice-in-Or.ensures at c.in_ok-place-in-Or.ensures.form in
    let noted = rw c.as_slice-in-Or.ensures at c.in_ok-place-in-Or.ensures.faults in
    or_summary _ _ _ _ _ _ _ _ _ c.in-Or.is place form noted c.plain_summary-in-Or.ensures

pub call-returns-in_ok-args-in-Internal : goal.call-returns-in_ok-args-in-Internal
call-returns-in_ok-args-in-Internal t c =
    let arity = rw c.len-in-Internal.ensures at c.note_arity-params-in-Internal.ensures.faults in
    let tys = rw c.len-in-Internal.ensures at c.note_arity-params-in-Internal.ensures.params in
    let form = rw c.as_slice-in-Internal.ensures at c.in_ok-args-in-Internal.ensures.form in
    let noted = rw c.as_slice-in-Internal.ensures at c.in_ok-args-in-Internal.ensures.faults in
    internal_summary _ _ _ _ _ _ _ _ _ _ _ _ _ _ c.in-Internal.is c.own_method-method.ensures arity tys form noted c.internal.ensures
