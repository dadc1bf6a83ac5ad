use Rattle.std.proofs.Common.{◌≡◌, ℕ, ◌+◌, ◌-◌, ◌<◌, ◌≤◌, true, length, take, drop, ap, sym, ◌∙◌, arith, refl}
use Rattle.std.proofs.lemmas.Bool.{false≢true}
use Rattle.ecf_lang.specs.Forms.{value_number, value_flag, value_here, value_name, value_map_at, value_not, value_product, value_sum, value_compare, value_and, value_or}
use Rattle.ecf_lang.specs.Part.{Part}
use Rattle.ecf_lang.specs.Meaning.{value_of}
use Rattle.ecf_plain.specs.Leads.{framed, constant, chained, all_of, any_of, all_after, any_after}
use Rattle.ecf_plain.specs.Plain.{is_plain}
use Rattle.ecf_plain.specs.PlainForms.{plain_at, plain_not, plain_product, plain_sum, plain_compare, plain_and, plain_or, call_not_plain}
use Rattle.ecf_plain.proofs.LeadLaws.{as_form, before_more, ends_more, failed, further_on, on_to, on_to_end, reached, stays}
use Rattle.ecf_plain.proofs.PlainLaws.{and_first, and_second, begins_so, none_left, every_one, plain_part, plain_others}
use Rattle.ecf_plain.proofs.ValueLaws.{chain_more, all_more, any_more, at_zero_zero, at_zero_above}
use Rattle.ecf_plain.proofs.expressions.+expressions.Goals as goal

pub value-returns-in-Call : goal.value-returns-in-Call
value-returns-in-Call g t c = λ plain store is opens. false≢true (sym (call_not_plain _) ∙ ap is_plain (sym c.in-Call.is) ∙ plain)

pub value-returns-in-Number : goal.value-returns-in-Number
value-returns-in-Number g t c = λ plain store is opens.
    let frame = framed c.args.frame.now opens in
    as_form _ _ _ _ (ap (λ e. value_of store frame c.args.locals.now.top e c.args.state.now.run) c.in-Number.is ∙ value_number store frame c.args.locals.now.top _ c.args.state.now.run) (c.constant.ensures store is opens)

pub value-returns-in-Flag : goal.value-returns-in-Flag
value-returns-in-Flag g t c = λ plain store is opens.
    let frame = framed c.args.frame.now opens in
    as_form _ _ _ _ (ap (λ e. value_of store frame c.args.locals.now.top e c.args.state.now.run) c.in-Flag.is ∙ value_flag store frame c.args.locals.now.top _ c.args.state.now.run ∙ ap (λ v. constant v store frame c.args.state.now.run) (sym c.from.ensures)) (c.constant-in-Flag.ensures store is opens)

pub value-returns-in-Here : goal.value-returns-in-Here
value-returns-in-Here g t c = λ plain store is opens.
    let frame = framed c.args.frame.now opens in
    as_form _ _ _ _ (ap (λ e. value_of store frame c.args.locals.now.top e c.args.state.now.run) c.in-Here.is ∙ value_here store frame c.args.locals.now.top c.args.state.now.run ∙ ap (λ v. constant v store frame c.args.state.now.run) (sym c.from-in-Here.ensures)) (c.constant-in-Here.ensures store is opens)

pub value-returns-in-Name : goal.value-returns-in-Name
value-returns-in-Name g t c = λ plain store is opens.
    let frame = framed c.args.frame.now opens in
    as_form _ _ _ _ (ap (λ e. value_of store frame c.args.locals.now.top e c.args.state.now.run) c.in-Name.is ∙ value_name store frame c.args.locals.now.top _ c.args.state.now.run) (c.named.ensures store is opens)

pub value-returns-in_ok-operand-in-At : goal.value-returns-in_ok-operand-in-At
value-returns-in_ok-operand-in-At g t c = λ plain store is opens.
    let frame = framed c.args.frame.now opens in
    let first = (rw c.get.ensures at c.in_ok-operand-in-At.ensures) (sym (plain_at _ _) ∙ ap is_plain (sym c.in-At.is) ∙ plain) store is opens in
    on_to _ _ _ (further_on (reached _ _ _ (ap (λ e. value_of store frame c.args.locals.now.top e c.args.state.now.run) c.in-At.is ∙ value_map_at store frame c.args.locals.now.top _ _ c.args.state.now.run)) (before_more _ first)) (c.fetch.ensures store (stays first is) opens)

pub value-returns-in_err-operand-in-At : goal.value-returns-in_err-operand-in-At
value-returns-in_err-operand-in-At g t c = λ plain store is opens.
    let frame = framed c.args.frame.now opens in
    failed _ _ _ _ _ _ c.from_residual.ensures.1 (on_to_end _ _ (reached _ _ _ (ap (λ e. value_of store frame c.args.locals.now.top e c.args.state.now.run) c.in-At.is ∙ value_map_at store frame c.args.locals.now.top _ _ c.args.state.now.run)) (ends_more _ _ _ _ _ ((rw c.get.ensures at c.in_err-operand-in-At.ensures) (sym (plain_at _ _) ∙ ap is_plain (sym c.in-At.is) ∙ plain) store is opens)))

pub value-returns-in_ok-operand-in-Not : goal.value-returns-in_ok-operand-in-Not
value-returns-in_ok-operand-in-Not g t c = λ plain store is opens.
    let frame = framed c.args.frame.now opens in
    let first = (rw c.get-in-Not.ensures at c.in_ok-operand-in-Not.ensures) (sym (plain_not _) ∙ ap is_plain (sym c.in-Not.is) ∙ plain) store is opens in
    on_to _ _ _ (further_on (reached _ _ _ (ap (λ e. value_of store frame c.args.locals.now.top e c.args.state.now.run) c.in-Not.is ∙ value_not store frame c.args.locals.now.top _ c.args.state.now.run)) (before_more _ first)) (c.not.ensures store (stays first is) opens)

pub value-returns-in_err-operand-in-Not : goal.value-returns-in_err-operand-in-Not
value-returns-in_err-operand-in-Not g t c = λ plain store is opens.
    let frame = framed c.args.frame.now opens in
    failed _ _ _ _ _ _ c.from_residual-in_err-operand-in-Not.ensures.1 (on_to_end _ _ (reached _ _ _ (ap (λ e. value_of store frame c.args.locals.now.top e c.args.state.now.run) c.in-Not.is ∙ value_not store frame c.args.locals.now.top _ c.args.state.now.run)) (ends_more _ _ _ _ _ ((rw c.get-in-Not.ensures at c.in_err-operand-in-Not.ensures) (sym (plain_not _) ∙ ap is_plain (sym c.in-Not.is) ∙ plain) store is opens)))

pub value-returns-in_ok-operand-in-Product : goal.value-returns-in_ok-operand-in-Product
value-returns-in_ok-operand-in-Product g t c = λ plain store is opens.
    let frame = framed c.args.frame.now opens in
    let first = (rw c.get-in-Product.ensures at c.in_ok-operand-in-Product.ensures) (and_first _ _ (sym (plain_product _ _) ∙ ap is_plain (sym c.in-Product.is) ∙ plain)) store is opens in
    on_to _ _ _ (further_on (reached _ _ _ (ap (λ e. value_of store frame c.args.locals.now.top e c.args.state.now.run) c.in-Product.is ∙ value_product store frame c.args.locals.now.top _ _ c.args.state.now.run)) (before_more _ first)) ((rw c.as_slice.ensures at c.further.ensures) (and_second _ _ (sym (plain_product _ _) ∙ ap is_plain (sym c.in-Product.is) ∙ plain)) store (stays first is) opens)

pub value-returns-in_err-operand-in-Product : goal.value-returns-in_err-operand-in-Product
value-returns-in_err-operand-in-Product g t c = λ plain store is opens.
    let frame = framed c.args.frame.now opens in
    failed _ _ _ _ _ _ c.from_residual-in_err-operand-in-Product.ensures.1 (on_to_end _ _ (reached _ _ _ (ap (λ e. value_of store frame c.args.locals.now.top e c.args.state.now.run) c.in-Product.is ∙ value_product store frame c.args.locals.now.top _ _ c.args.state.now.run)) (ends_more _ _ _ _ _ ((rw c.get-in-Product.ensures at c.in_err-operand-in-Product.ensures) (and_first _ _ (sym (plain_product _ _) ∙ ap is_plain (sym c.in-Product.is) ∙ plain)) store is opens)))

pub value-returns-in_ok-operand-in-Sum : goal.value-returns-in_ok-operand-in-Sum
value-returns-in_ok-operand-in-Sum g t c = λ plain store is opens.
    let frame = framed c.args.frame.now opens in
    let first = (rw c.get-in-Sum.ensures at c.in_ok-operand-in-Sum.ensures) (and_first _ _ (sym (plain_sum _ _) ∙ ap is_plain (sym c.in-Sum.is) ∙ plain)) store is opens in
    on_to _ _ _ (further_on (reached _ _ _ (ap (λ e. value_of store frame c.args.locals.now.top e c.args.state.now.run) c.in-Sum.is ∙ value_sum store frame c.args.locals.now.top _ _ c.args.state.now.run)) (before_more _ first)) ((rw c.as_slice-in-Sum.ensures at c.further-in-Sum.ensures) (and_second _ _ (sym (plain_sum _ _) ∙ ap is_plain (sym c.in-Sum.is) ∙ plain)) store (stays first is) opens)

pub value-returns-in_err-operand-in-Sum : goal.value-returns-in_err-operand-in-Sum
value-returns-in_err-operand-in-Sum g t c = λ plain store is opens.
    let frame = framed c.args.frame.now opens in
    failed _ _ _ _ _ _ c.from_residual-in_err-operand-in-Sum.ensures.1 (on_to_end _ _ (reached _ _ _ (ap (λ e. value_of store frame c.args.locals.now.top e c.args.state.now.run) c.in-Sum.is ∙ value_sum store frame c.args.locals.now.top _ _ c.args.state.now.run)) (ends_more _ _ _ _ _ ((rw c.get-in-Sum.ensures at c.in_err-operand-in-Sum.ensures) (and_first _ _ (sym (plain_sum _ _) ∙ ap is_plain (sym c.in-Sum.is) ∙ plain)) store is opens)))

pub value-returns-in_ok-operand-in-Compare-2 : goal.value-returns-in_ok-operand-in-Compare-2
value-returns-in_ok-operand-in-Compare-2 g t c = λ plain store is opens.
    let frame = framed c.args.frame.now opens in
    let first = (rw c.get-in-Compare.ensures at c.in_ok-operand-in-Compare.ensures) (and_first _ _ (sym (plain_compare _ _ _) ∙ ap is_plain (sym c.in-Compare.is) ∙ plain)) store is opens in
    let second = (rw c.get-in-Compare-2.ensures at c.in_ok-operand-in-Compare-2.ensures) (and_second _ _ (sym (plain_compare _ _ _) ∙ ap is_plain (sym c.in-Compare.is) ∙ plain)) store (stays first is) opens in
    on_to _ _ _ (further_on (reached _ _ _ (ap (λ e. value_of store frame c.args.locals.now.top e c.args.state.now.run) c.in-Compare.is ∙ value_compare store frame c.args.locals.now.top _ _ _ c.args.state.now.run)) (further_on (before_more _ first) (before_more _ second))) (c.operate.ensures store (stays second (stays first is)) opens)

pub value-returns-in_err-operand-in-Compare : goal.value-returns-in_err-operand-in-Compare
value-returns-in_err-operand-in-Compare g t c = λ plain store is opens.
    let frame = framed c.args.frame.now opens in
    failed _ _ _ _ _ _ c.from_residual-in_err-operand-in-Compare.ensures.1 (on_to_end _ _ (reached _ _ _ (ap (λ e. value_of store frame c.args.locals.now.top e c.args.state.now.run) c.in-Compare.is ∙ value_compare store frame c.args.locals.now.top _ _ _ c.args.state.now.run)) (ends_more _ _ _ _ _ ((rw c.get-in-Compare.ensures at c.in_err-operand-in-Compare.ensures) (and_first _ _ (sym (plain_compare _ _ _) ∙ ap is_plain (sym c.in-Compare.is) ∙ plain)) store is opens)))

pub value-returns-in_err-operand-in-Compare-2 : goal.value-returns-in_err-operand-in-Compare-2
value-returns-in_err-operand-in-Compare-2 g t c = λ plain store is opens.
    let frame = framed c.args.frame.now opens in
    let first = (rw c.get-in-Compare.ensures at c.in_ok-operand-in-Compare.ensures) (and_first _ _ (sym (plain_compare _ _ _) ∙ ap is_plain (sym c.in-Compare.is) ∙ plain)) store is opens in
    failed _ _ _ _ _ _ c.from_residual-in_err-operand-in-Compare-2.ensures.1 (on_to_end _ _ (further_on (reached _ _ _ (ap (λ e. value_of store frame c.args.locals.now.top e c.args.state.now.run) c.in-Compare.is ∙ value_compare store frame c.args.locals.now.top _ _ _ c.args.state.now.run)) (before_more _ first)) (ends_more _ _ _ _ _ ((rw c.get-in-Compare-2.ensures at c.in_err-operand-in-Compare-2.ensures) (and_second _ _ (sym (plain_compare _ _ _) ∙ ap is_plain (sym c.in-Compare.is) ∙ plain)) store (stays first is) opens)))

pub value-returns-in-And : goal.value-returns-in-And
value-returns-in-And g t c = λ plain store is opens.
    let frame = framed c.args.frame.now opens in
    as_form _ _ _ _ (ap (λ e. value_of store frame c.args.locals.now.top e c.args.state.now.run) c.in-And.is ∙ value_and store frame c.args.locals.now.top _ c.args.state.now.run) ((rw c.as_slice-in-And.ensures at c.all.ensures) (sym (plain_and _) ∙ ap is_plain (sym c.in-And.is) ∙ plain) store is opens)

pub value-returns-in-Or : goal.value-returns-in-Or
value-returns-in-Or g t c = λ plain store is opens.
    let frame = framed c.args.frame.now opens in
    as_form _ _ _ _ (ap (λ e. value_of store frame c.args.locals.now.top e c.args.state.now.run) c.in-Or.is ∙ value_or store frame c.args.locals.now.top _ c.args.state.now.run) ((rw c.as_slice-in-Or.ensures at c.any.ensures) (sym (plain_or _) ∙ ap is_plain (sym c.in-Or.is) ∙ plain) store is opens)

pub operand-returns-in-Number : goal.operand-returns-in-Number
operand-returns-in-Number g t c = λ plain store is opens.
    let frame = framed c.args.frame.now opens in
    as_form _ _ _ _ (ap (λ e. value_of store frame c.args.locals.now.top e c.args.state.now.run) c.in-Number.is ∙ value_number store frame c.args.locals.now.top _ c.args.state.now.run) (c.constant.ensures store is opens)

pub operand-returns-in-Name : goal.operand-returns-in-Name
operand-returns-in-Name g t c = λ plain store is opens.
    let frame = framed c.args.frame.now opens in
    as_form _ _ _ _ (ap (λ e. value_of store frame c.args.locals.now.top e c.args.state.now.run) c.in-Name.is ∙ value_name store frame c.args.locals.now.top _ c.args.state.now.run) (c.named.ensures store is opens)

pub further-loop-op-init : goal.further-loop-op-init
further-loop-op-init g t c = λ plain store is opens. reached _ _ _ refl

pub further-loop-op-preserved : goal.further-loop-op-preserved
further-loop-op-preserved g t c = λ plain store is opens.
    let frame = framed c.args.frame.now opens in
    let so_far = c.loop-op.invariant plain store is opens in
    let value = c.in_ok-operand.ensures (plain_part c.args.parts.now c.loop-op.op-index c.loop-op-item.result plain c.loop-op-test.true c.loop-op-item.is) store (stays so_far is) opens in
    further_on so_far (further_on (reached _ _ _ (chain_more store frame c.args.locals.now.top c.args.parts.now c.loop-op.op-index c.loop-op-item.result c.loop-op.total c.loop-op.state.run c.loop-op-test.true c.loop-op-item.is)) (further_on (before_more _ value) (before_more _ (c.in_ok-operate.ensures store (stays value (stays so_far is)) opens))))

pub further-returns-in_err-operand : goal.further-returns-in_err-operand
further-returns-in_err-operand g t c = λ plain store is opens.
    let frame = framed c.args.frame.now opens in
    let so_far = c.loop-op.invariant plain store is opens in
    failed _ _ _ _ _ _ c.from_residual.ensures.1 (on_to_end _ _ (further_on so_far (reached _ _ _ (chain_more store frame c.args.locals.now.top c.args.parts.now c.loop-op.op-index c.loop-op-item.result c.loop-op.total c.loop-op.state.run c.loop-op-test.true c.loop-op-item.is))) (ends_more _ _ _ _ _ (c.in_err-operand.ensures (plain_part c.args.parts.now c.loop-op.op-index c.loop-op-item.result plain c.loop-op-test.true c.loop-op-item.is) store (stays so_far is) opens)))

pub further-returns-in_err-operate : goal.further-returns-in_err-operate
further-returns-in_err-operate g t c = λ plain store is opens.
    let frame = framed c.args.frame.now opens in
    let so_far = c.loop-op.invariant plain store is opens in
    let value = c.in_ok-operand.ensures (plain_part c.args.parts.now c.loop-op.op-index c.loop-op-item.result plain c.loop-op-test.true c.loop-op-item.is) store (stays so_far is) opens in
    failed _ _ _ _ _ _ c.from_residual-in_err-operate.ensures.1 (on_to_end _ _ (further_on so_far (further_on (reached _ _ _ (chain_more store frame c.args.locals.now.top c.args.parts.now c.loop-op.op-index c.loop-op-item.result c.loop-op.total c.loop-op.state.run c.loop-op-test.true c.loop-op-item.is)) (before_more _ value))) (ends_more _ _ _ _ _ (c.in_err-operate.ensures store (stays value (stays so_far is)) opens)))

pub further-returns : goal.further-returns
further-returns g t c = λ plain store is opens.
    let frame = framed c.args.frame.now opens in
    further_on (c.loop-op.invariant plain store is opens) (reached _ _ _ (ap (λ parts. chained c.args.locals.now.top c.loop-op.total parts store frame c.loop-op.state.run) (none_left c.args.parts.now c.loop-op.op-index c.loop-op-test.false)))

pub all-returns-in_err-operand : goal.all-returns-in_err-operand
all-returns-in_err-operand g t c = λ plain store is opens.
    let frame = framed c.args.frame.now opens in
    failed _ _ _ _ _ _ c.from_residual.ensures.1 (on_to_end _ _ (reached _ _ _ (ap (λ parts. all_of c.args.locals.now.top parts store frame c.args.state.now.run) (begins_so c.args.parts.now c.first-item.result (omega (arith, c.in-len1-up.len_at_least)) c.first-item.is))) (ends_more _ _ _ _ _ (c.in_err-operand.ensures (every_one is_plain c.args.parts.now 0 c.first-item.result plain (omega (arith, c.in-len1-up.len_at_least)) c.first-item.is) store is opens)))

pub all-loop-part-init : goal.all-loop-part-init
all-loop-part-init g t c = λ plain store is opens.
    let frame = framed c.args.frame.now opens in
    further_on (reached _ _ _ (ap (λ parts. all_of c.args.locals.now.top parts store frame c.args.state.now.run) (begins_so c.args.parts.now c.first-item.result (omega (arith, c.in-len1-up.len_at_least)) c.first-item.is))) (before_more _ (c.in_ok-operand.ensures (every_one is_plain c.args.parts.now 0 c.first-item.result plain (omega (arith, c.in-len1-up.len_at_least)) c.first-item.is) store is opens))

pub all-returns-in_err-charge : goal.all-returns-in_err-charge
all-returns-in_err-charge g t c = λ plain store is opens.
    let frame = framed c.args.frame.now opens in
    let so_far = c.loop-part.invariant plain store is opens in
    failed _ _ _ _ _ _ c.from_residual-in_err-charge.ensures.1 (on_to_end _ _ (further_on so_far (reached _ _ _ (all_more store frame c.args.locals.now.top (take (length c.args.parts.now - 1) (drop 1 c.args.parts.now)) c.loop-part.part-index c.part-item.result c.loop-part.out c.loop-part.state.run c.loop-part-test.true c.part-item.is))) (ends_more _ _ _ _ _ (c.in_err-charge.ensures.does store (stays so_far is) opens)))

pub all-returns-then-out-eq0 : goal.all-returns-then-out-eq0
all-returns-then-out-eq0 g t c = λ plain store is opens.
    let frame = framed c.args.frame.now opens in
    let so_far = c.loop-part.invariant plain store is opens in
    let paid = c.in_ok-charge.ensures.does store (stays so_far is) opens in
    further_on so_far (further_on (reached _ _ _ (all_more store frame c.args.locals.now.top (take (length c.args.parts.now - 1) (drop 1 c.args.parts.now)) c.loop-part.part-index c.part-item.result c.loop-part.out c.loop-part.state.run c.loop-part-test.true c.part-item.is)) (further_on (before_more _ paid) (reached _ _ _ (ap (λ (part : Part ℕ). part c.charge.new.state.run) (at_zero_zero c.loop-part.out _ _ c.if-out-eq0.true)))))

pub all-loop-part-preserved : goal.all-loop-part-preserved
all-loop-part-preserved g t c = λ plain store is opens.
    let frame = framed c.args.frame.now opens in
    let so_far = c.loop-part.invariant plain store is opens in
    let paid = c.in_ok-charge.ensures.does store (stays so_far is) opens in
    further_on so_far (further_on (reached _ _ _ (all_more store frame c.args.locals.now.top (take (length c.args.parts.now - 1) (drop 1 c.args.parts.now)) c.loop-part.part-index c.part-item.result c.loop-part.out c.loop-part.state.run c.loop-part-test.true c.part-item.is)) (further_on (before_more _ paid) (further_on (reached _ _ _ (ap (λ (part : Part ℕ). part c.charge.new.state.run) (at_zero_above c.loop-part.out _ _ (omega (arith, c.if-out-eq0.false))))) (before_more _ (c.in_ok-operand-2.ensures (every_one is_plain (take (length c.args.parts.now - 1) (drop 1 c.args.parts.now)) c.loop-part.part-index c.part-item.result (plain_others c.args.parts.now c.first-item.result plain (omega (arith, c.in-len1-up.len_at_least)) c.first-item.is) c.loop-part-test.true c.part-item.is) store (stays paid (stays so_far is)) opens)))))

pub all-returns-in_err-operand-2 : goal.all-returns-in_err-operand-2
all-returns-in_err-operand-2 g t c = λ plain store is opens.
    let frame = framed c.args.frame.now opens in
    let so_far = c.loop-part.invariant plain store is opens in
    let paid = c.in_ok-charge.ensures.does store (stays so_far is) opens in
    failed _ _ _ _ _ _ c.from_residual-in_err-operand-2.ensures.1 (on_to_end _ _ (further_on so_far (further_on (reached _ _ _ (all_more store frame c.args.locals.now.top (take (length c.args.parts.now - 1) (drop 1 c.args.parts.now)) c.loop-part.part-index c.part-item.result c.loop-part.out c.loop-part.state.run c.loop-part-test.true c.part-item.is)) (further_on (before_more _ paid) (reached _ _ _ (ap (λ (part : Part ℕ). part c.charge.new.state.run) (at_zero_above c.loop-part.out _ _ (omega (arith, c.if-out-eq0.false)))))))) (ends_more _ _ _ _ _ (c.in_err-operand-2.ensures (every_one is_plain (take (length c.args.parts.now - 1) (drop 1 c.args.parts.now)) c.loop-part.part-index c.part-item.result (plain_others c.args.parts.now c.first-item.result plain (omega (arith, c.in-len1-up.len_at_least)) c.first-item.is) c.loop-part-test.true c.part-item.is) store (stays paid (stays so_far is)) opens)))

pub all-returns : goal.all-returns
all-returns g t c = λ plain store is opens.
    let frame = framed c.args.frame.now opens in
    further_on (c.loop-part.invariant plain store is opens) (reached _ _ _ (ap (λ parts. all_after c.args.locals.now.top c.loop-part.out parts store frame c.loop-part.state.run) (none_left (take (length c.args.parts.now - 1) (drop 1 c.args.parts.now)) c.loop-part.part-index c.loop-part-test.false)))

pub any-returns-in_err-operand : goal.any-returns-in_err-operand
any-returns-in_err-operand g t c = λ plain store is opens.
    let frame = framed c.args.frame.now opens in
    failed _ _ _ _ _ _ c.from_residual.ensures.1 (on_to_end _ _ (reached _ _ _ (ap (λ parts. any_of c.args.locals.now.top parts store frame c.args.state.now.run) (begins_so c.args.parts.now c.first-item.result (omega (arith, c.in-len1-up.len_at_least)) c.first-item.is))) (ends_more _ _ _ _ _ (c.in_err-operand.ensures (every_one is_plain c.args.parts.now 0 c.first-item.result plain (omega (arith, c.in-len1-up.len_at_least)) c.first-item.is) store is opens)))

pub any-loop-part-init : goal.any-loop-part-init
any-loop-part-init g t c = λ plain store is opens.
    let frame = framed c.args.frame.now opens in
    further_on (reached _ _ _ (ap (λ parts. any_of c.args.locals.now.top parts store frame c.args.state.now.run) (begins_so c.args.parts.now c.first-item.result (omega (arith, c.in-len1-up.len_at_least)) c.first-item.is))) (before_more _ (c.in_ok-operand.ensures (every_one is_plain c.args.parts.now 0 c.first-item.result plain (omega (arith, c.in-len1-up.len_at_least)) c.first-item.is) store is opens))

pub any-returns-in_err-charge : goal.any-returns-in_err-charge
any-returns-in_err-charge g t c = λ plain store is opens.
    let frame = framed c.args.frame.now opens in
    let so_far = c.loop-part.invariant plain store is opens in
    failed _ _ _ _ _ _ c.from_residual-in_err-charge.ensures.1 (on_to_end _ _ (further_on so_far (reached _ _ _ (any_more store frame c.args.locals.now.top (take (length c.args.parts.now - 1) (drop 1 c.args.parts.now)) c.loop-part.part-index c.part-item.result c.loop-part.out c.loop-part.state.run c.loop-part-test.true c.part-item.is))) (ends_more _ _ _ _ _ (c.in_err-charge.ensures.does store (stays so_far is) opens)))

pub any-returns-then-out-ne0 : goal.any-returns-then-out-ne0
any-returns-then-out-ne0 g t c = λ plain store is opens.
    let frame = framed c.args.frame.now opens in
    let so_far = c.loop-part.invariant plain store is opens in
    let paid = c.in_ok-charge.ensures.does store (stays so_far is) opens in
    further_on so_far (further_on (reached _ _ _ (any_more store frame c.args.locals.now.top (take (length c.args.parts.now - 1) (drop 1 c.args.parts.now)) c.loop-part.part-index c.part-item.result c.loop-part.out c.loop-part.state.run c.loop-part-test.true c.part-item.is)) (further_on (before_more _ paid) (reached _ _ _ (ap (λ (part : Part ℕ). part c.charge.new.state.run) (at_zero_above c.loop-part.out _ _ (omega (arith, c.if-out-ne0.true)))))))

pub any-loop-part-preserved : goal.any-loop-part-preserved
any-loop-part-preserved g t c = λ plain store is opens.
    let frame = framed c.args.frame.now opens in
    let so_far = c.loop-part.invariant plain store is opens in
    let paid = c.in_ok-charge.ensures.does store (stays so_far is) opens in
    further_on so_far (further_on (reached _ _ _ (any_more store frame c.args.locals.now.top (take (length c.args.parts.now - 1) (drop 1 c.args.parts.now)) c.loop-part.part-index c.part-item.result c.loop-part.out c.loop-part.state.run c.loop-part-test.true c.part-item.is)) (further_on (before_more _ paid) (further_on (reached _ _ _ (ap (λ (part : Part ℕ). part c.charge.new.state.run) (at_zero_zero c.loop-part.out _ _ c.if-out-ne0.false))) (before_more _ (c.in_ok-operand-2.ensures (every_one is_plain (take (length c.args.parts.now - 1) (drop 1 c.args.parts.now)) c.loop-part.part-index c.part-item.result (plain_others c.args.parts.now c.first-item.result plain (omega (arith, c.in-len1-up.len_at_least)) c.first-item.is) c.loop-part-test.true c.part-item.is) store (stays paid (stays so_far is)) opens)))))

pub any-returns-in_err-operand-2 : goal.any-returns-in_err-operand-2
any-returns-in_err-operand-2 g t c = λ plain store is opens.
    let frame = framed c.args.frame.now opens in
    let so_far = c.loop-part.invariant plain store is opens in
    let paid = c.in_ok-charge.ensures.does store (stays so_far is) opens in
    failed _ _ _ _ _ _ c.from_residual-in_err-operand-2.ensures.1 (on_to_end _ _ (further_on so_far (further_on (reached _ _ _ (any_more store frame c.args.locals.now.top (take (length c.args.parts.now - 1) (drop 1 c.args.parts.now)) c.loop-part.part-index c.part-item.result c.loop-part.out c.loop-part.state.run c.loop-part-test.true c.part-item.is)) (further_on (before_more _ paid) (reached _ _ _ (ap (λ (part : Part ℕ). part c.charge.new.state.run) (at_zero_zero c.loop-part.out _ _ c.if-out-ne0.false)))))) (ends_more _ _ _ _ _ (c.in_err-operand-2.ensures (every_one is_plain (take (length c.args.parts.now - 1) (drop 1 c.args.parts.now)) c.loop-part.part-index c.part-item.result (plain_others c.args.parts.now c.first-item.result plain (omega (arith, c.in-len1-up.len_at_least)) c.first-item.is) c.loop-part-test.true c.part-item.is) store (stays paid (stays so_far is)) opens)))

pub any-returns : goal.any-returns
any-returns g t c = λ plain store is opens.
    let frame = framed c.args.frame.now opens in
    further_on (c.loop-part.invariant plain store is opens) (reached _ _ _ (ap (λ parts. any_after c.args.locals.now.top c.loop-part.out parts store frame c.loop-part.state.run) (none_left (take (length c.args.parts.now - 1) (drop 1 c.args.parts.now)) c.loop-part.part-index c.loop-part-test.false)))
