use Rattle.std.proofs.Common.{◌≡◌, ℕ, suc, ◌+◌, ◌-◌, ◌<◌, ◌≤◌, true, List, [], map, drop, Some, None, ap, sym, ◌∙◌, arith, refl}
use Rattle.std.specs.Option.{option_map}
use Rattle.std.proofs.lemmas.Bool.{false≢true}
use Rattle.ecf_lang.specs.declared.typed.TypedStmt.TheVariants as stmt
use Rattle.ecf_lang.specs.Forms.{stmt_let, stmt_set, stmt_set_at, stmt_while, stmt_return, stmt_revert, stmt_if, block_is}
use Rattle.ecf_lang.specs.Part.{State, Done, Exit, RunsOut, Part}
use Rattle.ecf_lang.specs.Meaning.{Flow, Continues, stmt_of}
use Rattle.ecf_progress.specs.Segments.{Lists}
use Rattle.ecf_plain.specs.Leads.{framed, done_stmts, branched, turned}
use Rattle.ecf_plain.specs.Plain.{every, last_plain, is_plain_stmt, is_plain_block}
use Rattle.ecf_plain.specs.PlainForms.{plain_let, try_not_plain, plain_set, plain_set_at, plain_if, plain_while, plain_return, plain_revert, do_not_plain, plain_block_is}
use Rattle.ecf_plain.proofs.LeadLaws.{before_more, continued, ends_more, failed_move, further_on, on_to_end, on_to_move, reached, returned, reverted, stays}
use Rattle.ecf_plain.proofs.PlainLaws.{and_first, and_second, every_one, none_left, plain_arm}
use Rattle.ecf_plain.proofs.StatementLaws.{stmts_more, branch_more, turns_more, no_turns, write_then, unpaid}
use Rattle.ecf_plain.proofs.ValueLaws.{at_zero_zero, at_zero_above}
use Rattle.ecf_plain.proofs.statements.+statements.Goals as goal

pub run_stmt-returns-in_err-charge-clause-acts : goal.run_stmt-returns-in_err-charge-clause-acts
run_stmt-returns-in_err-charge-clause-acts g t c = λ plain store is opens.
    let frame = framed c.args.frame.now opens in
    failed_move _ _ _ _ _ _ _ c.from_residual.ensures.1 (unpaid store frame c.args.locals.now.top c.args.stmt.now _ _ _ (c.in_err-charge.ensures.does store is opens))

pub run_stmt-returns-in_ok-operand-in-Let-clause-acts : goal.run_stmt-returns-in_ok-operand-in-Let-clause-acts
run_stmt-returns-in_ok-operand-in-Let-clause-acts g t c = λ plain store is opens.
    let frame = framed c.args.frame.now opens in
    let begun = reached _ _ _ (ap (λ t. stmt_of store frame t c.args.locals.now.top c.args.state.now.run) c.in-Let.is ∙ stmt_let store frame _ _ _ c.args.locals.now.top c.args.state.now.run) in
    let paid = c.in_ok-charge.ensures.does store is opens in
    let value = c.in_ok-operand-in-Let.ensures (sym (plain_let _ _ _) ∙ ap is_plain_stmt (sym c.in-Let.is) ∙ plain) store (stays paid is) opens in
    further_on begun (further_on (before_more _ paid) (further_on (before_more _ value) (reached _ _ _ (ap (λ (l : Lists). Done (Continues l.top) c.operand.new.state.run) (sym c.set.ensures)))))

pub run_stmt-returns-in_err-operand-in-Let-clause-acts : goal.run_stmt-returns-in_err-operand-in-Let-clause-acts
run_stmt-returns-in_err-operand-in-Let-clause-acts g t c = λ plain store is opens.
    let frame = framed c.args.frame.now opens in
    let begun = reached _ _ _ (ap (λ t. stmt_of store frame t c.args.locals.now.top c.args.state.now.run) c.in-Let.is ∙ stmt_let store frame _ _ _ c.args.locals.now.top c.args.state.now.run) in
    let paid = c.in_ok-charge.ensures.does store is opens in
    failed_move _ _ _ _ _ _ _ c.from_residual-in_err-operand-in-Let.ensures.1 (on_to_end _ _ (further_on begun (before_more _ paid)) (ends_more _ _ _ _ _ (c.in_err-operand-in-Let.ensures (sym (plain_let _ _ _) ∙ ap is_plain_stmt (sym c.in-Let.is) ∙ plain) store (stays paid is) opens)))

pub run_stmt-returns-in_ok-operand-in-Set-clause-acts : goal.run_stmt-returns-in_ok-operand-in-Set-clause-acts
run_stmt-returns-in_ok-operand-in-Set-clause-acts g t c = λ plain store is opens.
    let frame = framed c.args.frame.now opens in
    let begun = reached _ _ _ (ap (λ t. stmt_of store frame t c.args.locals.now.top c.args.state.now.run) c.in-Set.is ∙ stmt_set store frame _ _ c.args.locals.now.top c.args.state.now.run) in
    let paid = c.in_ok-charge.ensures.does store is opens in
    let value = c.in_ok-operand-in-Set.ensures (sym (plain_set _ _) ∙ ap is_plain_stmt (sym c.in-Set.is) ∙ plain) store (stays paid is) opens in
    on_to_move _ _ _ _ (further_on begun (further_on (before_more _ paid) (before_more _ value))) (c.assign.ensures.acts store (stays value (stays paid is)) opens)

pub run_stmt-returns-in_err-operand-in-Set-clause-acts : goal.run_stmt-returns-in_err-operand-in-Set-clause-acts
run_stmt-returns-in_err-operand-in-Set-clause-acts g t c = λ plain store is opens.
    let frame = framed c.args.frame.now opens in
    let begun = reached _ _ _ (ap (λ t. stmt_of store frame t c.args.locals.now.top c.args.state.now.run) c.in-Set.is ∙ stmt_set store frame _ _ c.args.locals.now.top c.args.state.now.run) in
    let paid = c.in_ok-charge.ensures.does store is opens in
    failed_move _ _ _ _ _ _ _ c.from_residual-in_err-operand-in-Set.ensures.1 (on_to_end _ _ (further_on begun (before_more _ paid)) (ends_more _ _ _ _ _ (c.in_err-operand-in-Set.ensures (sym (plain_set _ _) ∙ ap is_plain_stmt (sym c.in-Set.is) ∙ plain) store (stays paid is) opens)))

pub run_stmt-returns-in_ok-operand-in-Return-clause-acts : goal.run_stmt-returns-in_ok-operand-in-Return-clause-acts
run_stmt-returns-in_ok-operand-in-Return-clause-acts g t c = λ plain store is opens.
    let frame = framed c.args.frame.now opens in
    let begun = reached _ _ _ (ap (λ t. stmt_of store frame t c.args.locals.now.top c.args.state.now.run) c.in-Return.is ∙ stmt_return store frame _ c.args.locals.now.top c.args.state.now.run) in
    let paid = c.in_ok-charge.ensures.does store is opens in
    let value = c.in_ok-operand-in-Return.ensures (sym (plain_return _) ∙ ap is_plain_stmt (sym c.in-Return.is) ∙ plain) store (stays paid is) opens in
    further_on begun (further_on (before_more _ paid) (before_more _ value))

pub run_stmt-returns-in_err-operand-in-Return-clause-acts : goal.run_stmt-returns-in_err-operand-in-Return-clause-acts
run_stmt-returns-in_err-operand-in-Return-clause-acts g t c = λ plain store is opens.
    let frame = framed c.args.frame.now opens in
    let begun = reached _ _ _ (ap (λ t. stmt_of store frame t c.args.locals.now.top c.args.state.now.run) c.in-Return.is ∙ stmt_return store frame _ c.args.locals.now.top c.args.state.now.run) in
    let paid = c.in_ok-charge.ensures.does store is opens in
    failed_move _ _ _ _ _ _ _ c.from_residual-in_err-operand-in-Return.ensures.1 (on_to_end _ _ (further_on begun (before_more _ paid)) (ends_more _ _ _ _ _ (c.in_err-operand-in-Return.ensures (sym (plain_return _) ∙ ap is_plain_stmt (sym c.in-Return.is) ∙ plain) store (stays paid is) opens)))

pub run_stmt-returns-in_ok-operand-in-Revert-clause-acts : goal.run_stmt-returns-in_ok-operand-in-Revert-clause-acts
run_stmt-returns-in_ok-operand-in-Revert-clause-acts g t c = λ plain store is opens.
    let frame = framed c.args.frame.now opens in
    let begun = reached _ _ _ (ap (λ t. stmt_of store frame t c.args.locals.now.top c.args.state.now.run) c.in-Revert.is ∙ stmt_revert store frame _ c.args.locals.now.top c.args.state.now.run) in
    let paid = c.in_ok-charge.ensures.does store is opens in
    let value = c.in_ok-operand-in-Revert.ensures (sym (plain_revert _) ∙ ap is_plain_stmt (sym c.in-Revert.is) ∙ plain) store (stays paid is) opens in
    further_on begun (further_on (before_more _ paid) (before_more _ value))

pub run_stmt-returns-in_err-operand-in-Revert-clause-acts : goal.run_stmt-returns-in_err-operand-in-Revert-clause-acts
run_stmt-returns-in_err-operand-in-Revert-clause-acts g t c = λ plain store is opens.
    let frame = framed c.args.frame.now opens in
    let begun = reached _ _ _ (ap (λ t. stmt_of store frame t c.args.locals.now.top c.args.state.now.run) c.in-Revert.is ∙ stmt_revert store frame _ c.args.locals.now.top c.args.state.now.run) in
    let paid = c.in_ok-charge.ensures.does store is opens in
    failed_move _ _ _ _ _ _ _ c.from_residual-in_err-operand-in-Revert.ensures.1 (on_to_end _ _ (further_on begun (before_more _ paid)) (ends_more _ _ _ _ _ (c.in_err-operand-in-Revert.ensures (sym (plain_revert _) ∙ ap is_plain_stmt (sym c.in-Revert.is) ∙ plain) store (stays paid is) opens)))

pub run_stmt-returns-in_err-operand-in-SetAt-clause-acts : goal.run_stmt-returns-in_err-operand-in-SetAt-clause-acts
run_stmt-returns-in_err-operand-in-SetAt-clause-acts g t c = λ plain store is opens.
    let frame = framed c.args.frame.now opens in
    let begun = reached _ _ _ (ap (λ t. stmt_of store frame t c.args.locals.now.top c.args.state.now.run) c.in-SetAt.is ∙ stmt_set_at store frame _ _ _ c.args.locals.now.top c.args.state.now.run) in
    let paid = c.in_ok-charge.ensures.does store is opens in
    failed_move _ _ _ _ _ _ _ c.from_residual-in_err-operand-in-SetAt.ensures.1 (on_to_end _ _ (further_on begun (before_more _ paid)) (ends_more _ _ _ _ _ (c.in_err-operand-in-SetAt.ensures (and_first _ _ (sym (plain_set_at _ _ _) ∙ ap is_plain_stmt (sym c.in-SetAt.is) ∙ plain)) store (stays paid is) opens)))

pub run_stmt-returns-in_err-operand-in-SetAt-2-clause-acts : goal.run_stmt-returns-in_err-operand-in-SetAt-2-clause-acts
run_stmt-returns-in_err-operand-in-SetAt-2-clause-acts g t c = λ plain store is opens.
    let frame = framed c.args.frame.now opens in
    let begun = reached _ _ _ (ap (λ t. stmt_of store frame t c.args.locals.now.top c.args.state.now.run) c.in-SetAt.is ∙ stmt_set_at store frame _ _ _ c.args.locals.now.top c.args.state.now.run) in
    let paid = c.in_ok-charge.ensures.does store is opens in
    let place = c.in_ok-operand-in-SetAt.ensures (and_first _ _ (sym (plain_set_at _ _ _) ∙ ap is_plain_stmt (sym c.in-SetAt.is) ∙ plain)) store (stays paid is) opens in
    failed_move _ _ _ _ _ _ _ c.from_residual-in_err-operand-in-SetAt-2.ensures.1 (on_to_end _ _ (further_on begun (further_on (before_more _ paid) (before_more _ place))) (ends_more _ _ _ _ _ (c.in_err-operand-in-SetAt-2.ensures (and_second _ _ (sym (plain_set_at _ _ _) ∙ ap is_plain_stmt (sym c.in-SetAt.is) ∙ plain)) store (stays place (stays paid is)) opens)))

pub run_stmt-returns-in_err-put-in-SetAt-clause-acts : goal.run_stmt-returns-in_err-put-in-SetAt-clause-acts
run_stmt-returns-in_err-put-in-SetAt-clause-acts g t c = λ plain store is opens.
    let frame = framed c.args.frame.now opens in
    let begun = reached _ _ _ (ap (λ t. stmt_of store frame t c.args.locals.now.top c.args.state.now.run) c.in-SetAt.is ∙ stmt_set_at store frame _ _ _ c.args.locals.now.top c.args.state.now.run) in
    let paid = c.in_ok-charge.ensures.does store is opens in
    let place = c.in_ok-operand-in-SetAt.ensures (and_first _ _ (sym (plain_set_at _ _ _) ∙ ap is_plain_stmt (sym c.in-SetAt.is) ∙ plain)) store (stays paid is) opens in
    let value = c.in_ok-operand-in-SetAt-2.ensures (and_second _ _ (sym (plain_set_at _ _ _) ∙ ap is_plain_stmt (sym c.in-SetAt.is) ∙ plain)) store (stays place (stays paid is)) opens in
    failed_move _ _ _ _ _ _ _ c.from_residual-in_err-put-in-SetAt.ensures.1 (on_to_end _ _ (further_on begun (further_on (before_more _ paid) (further_on (before_more _ place) (further_on (before_more _ value) (reached _ _ _ (write_then store frame c.in-SetAt.map c.operand-in-SetAt.new.out c.operand-in-SetAt-2.new.out c.args.locals.now.top c.operand-in-SetAt-2.new.state.run)))))) (ends_more _ _ _ _ _ (c.in_err-put-in-SetAt.ensures store (stays value (stays place (stays paid is))) opens)))

pub run_stmt-returns-in_ok-put-in-SetAt-clause-acts : goal.run_stmt-returns-in_ok-put-in-SetAt-clause-acts
run_stmt-returns-in_ok-put-in-SetAt-clause-acts g t c = λ plain store is opens.
    let frame = framed c.args.frame.now opens in
    let begun = reached _ _ _ (ap (λ t. stmt_of store frame t c.args.locals.now.top c.args.state.now.run) c.in-SetAt.is ∙ stmt_set_at store frame _ _ _ c.args.locals.now.top c.args.state.now.run) in
    let paid = c.in_ok-charge.ensures.does store is opens in
    let place = c.in_ok-operand-in-SetAt.ensures (and_first _ _ (sym (plain_set_at _ _ _) ∙ ap is_plain_stmt (sym c.in-SetAt.is) ∙ plain)) store (stays paid is) opens in
    let value = c.in_ok-operand-in-SetAt-2.ensures (and_second _ _ (sym (plain_set_at _ _ _) ∙ ap is_plain_stmt (sym c.in-SetAt.is) ∙ plain)) store (stays place (stays paid is)) opens in
    further_on (further_on begun (further_on (before_more _ paid) (further_on (before_more _ place) (further_on (before_more _ value) (reached _ _ _ (write_then store frame c.in-SetAt.map c.operand-in-SetAt.new.out c.operand-in-SetAt-2.new.out c.args.locals.now.top c.operand-in-SetAt-2.new.state.run)))))) (before_more _ (c.in_ok-put-in-SetAt.ensures store (stays value (stays place (stays paid is))) opens))

pub run_stmt-returns-in-While-clause-acts : goal.run_stmt-returns-in-While-clause-acts
run_stmt-returns-in-While-clause-acts g t c = λ plain store is opens.
    let frame = framed c.args.frame.now opens in
    let begun = reached _ _ _ (ap (λ t. stmt_of store frame t c.args.locals.now.top c.args.state.now.run) c.in-While.is ∙ stmt_while store frame _ _ c.args.locals.now.top c.args.state.now.run) in
    let paid = c.in_ok-charge.ensures.does store is opens in
    on_to_move _ _ _ _ (further_on begun (before_more _ paid)) (c.repeat.ensures.acts (and_first _ _ (sym (plain_while _ _) ∙ ap is_plain_stmt (sym c.in-While.is) ∙ plain)) (and_second _ _ (sym (plain_while _ _) ∙ ap is_plain_stmt (sym c.in-While.is) ∙ plain)) store (stays paid is) opens)

pub run_stmt-returns-in-Try-clause-acts : goal.run_stmt-returns-in-Try-clause-acts
run_stmt-returns-in-Try-clause-acts g t c = λ plain store is opens. false≢true (sym (try_not_plain _ _ _ _) ∙ ap is_plain_stmt (sym c.in-Try.is) ∙ plain)

pub run_stmt-returns-in-Do-clause-acts : goal.run_stmt-returns-in-Do-clause-acts
run_stmt-returns-in-Do-clause-acts g t c = λ plain store is opens. false≢true (sym (do_not_plain _) ∙ ap is_plain_stmt (sym c.in-Do.is) ∙ plain)

pub run_stmt-loop-cond-init : goal.run_stmt-loop-cond-init
run_stmt-loop-cond-init g t c = record {
  is = (c.in-If.is ∙ ap (λ arms. stmt.If arms c.in-If.last) (sym c.as_slice-cond-items.ensures));
  comes = λ plain store is opens.
      let frame = framed c.args.frame.now opens in
      further_on (reached _ _ _ (ap (λ t. stmt_of store frame t c.args.locals.now.top c.args.state.now.run) (c.in-If.is ∙ ap (λ arms. stmt.If arms c.in-If.last) (sym c.as_slice-cond-items.ensures)) ∙ stmt_if store frame c.as_slice-cond-items.result.now c.in-If.last c.args.locals.now.top c.args.state.now.run)) (before_more _ (c.in_ok-charge.ensures.does store is opens));
  below = refl;
}

pub run_stmt-returns-in_err-operand-in-If-clause-acts : goal.run_stmt-returns-in_err-operand-in-If-clause-acts
run_stmt-returns-in_err-operand-in-If-clause-acts g t c = λ plain store is opens.
    let frame = framed c.args.frame.now opens in
    let so_far = c.loop-cond.invariant.comes plain store is opens in
    let arm = plain_arm c.as_slice-cond-items.result.now c.loop-cond.cond-index c.loop-cond-item.result (and_first _ _ (sym (plain_if c.as_slice-cond-items.result.now c.in-If.last) ∙ ap is_plain_stmt (sym c.loop-cond.invariant.is) ∙ plain)) c.loop-cond-test.true c.loop-cond-item.is in
    let more = reached _ _ _ (branch_more store frame c.as_slice-cond-items.result.now c.in-If.last c.loop-cond.cond-index c.loop-cond-item.result c.loop-cond.locals.top c.loop-cond.state.run c.loop-cond-test.true c.loop-cond-item.is) in
    failed_move _ _ _ _ _ _ _ c.from_residual-in_err-operand-in-If.ensures.1 (on_to_end _ _ (further_on so_far more) (ends_more _ _ _ _ _ (c.in_err-operand-in-If.ensures (and_first _ _ arm) store (stays so_far is) opens)))

pub run_stmt-loop-cond-preserved : goal.run_stmt-loop-cond-preserved
run_stmt-loop-cond-preserved g t c = record {
  is = c.loop-cond.invariant.is;
  comes = λ plain store is opens.
      let frame = framed c.args.frame.now opens in
      let so_far = c.loop-cond.invariant.comes plain store is opens in
      let arm = plain_arm c.as_slice-cond-items.result.now c.loop-cond.cond-index c.loop-cond-item.result (and_first _ _ (sym (plain_if c.as_slice-cond-items.result.now c.in-If.last) ∙ ap is_plain_stmt (sym c.loop-cond.invariant.is) ∙ plain)) c.loop-cond-test.true c.loop-cond-item.is in
      let more = reached _ _ _ (branch_more store frame c.as_slice-cond-items.result.now c.in-If.last c.loop-cond.cond-index c.loop-cond-item.result c.loop-cond.locals.top c.loop-cond.state.run c.loop-cond-test.true c.loop-cond-item.is) in
      let value = c.in_ok-operand-in-If.ensures (and_first _ _ arm) store (stays so_far is) opens in
      further_on so_far (further_on more (further_on (before_more _ value) (reached _ _ _ (ap (λ (part : Part Flow). part c.operand-in-loop-cond.new.state.run) (at_zero_zero c.operand-in-loop-cond.new.out _ _ c.if-number-ne0.false)))));
  below = c.loop-cond.invariant.below;
}

pub run_stmt-returns-then-number-ne0-clause-acts : goal.run_stmt-returns-then-number-ne0-clause-acts
run_stmt-returns-then-number-ne0-clause-acts g t c = λ plain store is opens.
    let frame = framed c.args.frame.now opens in
    let so_far = c.loop-cond.invariant.comes plain store is opens in
    let arm = plain_arm c.as_slice-cond-items.result.now c.loop-cond.cond-index c.loop-cond-item.result (and_first _ _ (sym (plain_if c.as_slice-cond-items.result.now c.in-If.last) ∙ ap is_plain_stmt (sym c.loop-cond.invariant.is) ∙ plain)) c.loop-cond-test.true c.loop-cond-item.is in
    let more = reached _ _ _ (branch_more store frame c.as_slice-cond-items.result.now c.in-If.last c.loop-cond.cond-index c.loop-cond-item.result c.loop-cond.locals.top c.loop-cond.state.run c.loop-cond-test.true c.loop-cond-item.is) in
    let value = c.in_ok-operand-in-If.ensures (and_first _ _ arm) store (stays so_far is) opens in
    on_to_move _ _ _ _ (further_on so_far (further_on more (further_on (before_more _ value) (reached _ _ _ (ap (λ (part : Part Flow). part c.operand-in-loop-cond.new.state.run) (at_zero_above c.operand-in-loop-cond.new.out _ _ (omega (arith, c.if-number-ne0.true)))))))) (c.run_block.ensures.acts (and_second _ _ arm) store (stays value (stays so_far is)) opens)

pub run_stmt-returns-in-Some-clause-acts : goal.run_stmt-returns-in-Some-clause-acts
run_stmt-returns-in-Some-clause-acts g t c = λ plain store is opens.
    let frame = framed c.args.frame.now opens in
    let so_far = c.loop-cond.invariant.comes plain store is opens in
    on_to_move _ _ _ _ (further_on so_far (reached _ _ _ (ap (λ arms. branched arms c.in-If.last c.loop-cond.locals.top store frame c.loop-cond.state.run) (none_left c.as_slice-cond-items.result.now c.loop-cond.cond-index c.loop-cond-test.false) ∙ ap (λ last. branched [] last c.loop-cond.locals.top store frame c.loop-cond.state.run) c.in-Some.is))) (c.run_block-in-Some.ensures.acts (ap (λ last. last_plain (option_map is_plain_block last)) (sym c.in-Some.is) ∙ and_second _ _ (sym (plain_if c.as_slice-cond-items.result.now c.in-If.last) ∙ ap is_plain_stmt (sym c.loop-cond.invariant.is) ∙ plain)) store (stays so_far is) opens)

pub run_stmt-returns-in-None-clause-acts : goal.run_stmt-returns-in-None-clause-acts
run_stmt-returns-in-None-clause-acts g t c = λ plain store is opens.
    let frame = framed c.args.frame.now opens in
    let so_far = c.loop-cond.invariant.comes plain store is opens in
    further_on so_far (reached _ _ _ (ap (λ arms. branched arms c.in-If.last c.loop-cond.locals.top store frame c.loop-cond.state.run) (none_left c.as_slice-cond-items.result.now c.loop-cond.cond-index c.loop-cond-test.false) ∙ ap (λ last. branched [] last c.loop-cond.locals.top store frame c.loop-cond.state.run) c.in-None.is))

pub run_block-loop-stmt-init : goal.run_block-loop-stmt-init
run_block-loop-stmt-init g t c = record {
  comes = λ plain store is opens. reached _ _ _ (block_is store (framed c.args.frame.now opens) c.args.block.now c.args.locals.now.top c.args.state.now.run ∙ ap (λ stmts. done_stmts stmts c.args.locals.now.top store (framed c.args.frame.now opens) c.args.state.now.run) (sym c.as_slice-stmt-items.ensures));
  below = refl;
}

pub run_block-loop-stmt-preserved : goal.run_block-loop-stmt-preserved
run_block-loop-stmt-preserved g t c = record {
  comes = λ plain store is opens.
      let frame = framed c.args.frame.now opens in
      let so_far = c.loop-stmt.invariant.comes plain store is opens in
      let one = every_one is_plain_stmt c.as_slice-stmt-items.result.now c.loop-stmt.stmt-index c.stmt-item.result (ap (λ stmts. every (map is_plain_stmt stmts)) c.as_slice-stmt-items.ensures ∙ sym (plain_block_is c.args.block.now) ∙ plain) c.loop-stmt-test.true c.stmt-item.is in
      let more = reached _ _ _ (stmts_more store frame c.as_slice-stmt-items.result.now c.loop-stmt.stmt-index c.stmt-item.result c.loop-stmt.locals.top c.loop-stmt.state.run c.loop-stmt-test.true c.stmt-item.is) in
      further_on so_far (further_on more (before_more _ (continued _ _ _ _ _ _ c.in-Continues.is (c.in_ok-run_stmt.ensures.acts one store (stays so_far is) opens))));
  below = c.run_stmt.ensures.below ∙ c.loop-stmt.invariant.below;
}

pub run_block-returns-in-Returns-clause-acts : goal.run_block-returns-in-Returns-clause-acts
run_block-returns-in-Returns-clause-acts g t c = λ plain store is opens.
    let frame = framed c.args.frame.now opens in
    let so_far = c.loop-stmt.invariant.comes plain store is opens in
    let one = every_one is_plain_stmt c.as_slice-stmt-items.result.now c.loop-stmt.stmt-index c.stmt-item.result (ap (λ stmts. every (map is_plain_stmt stmts)) c.as_slice-stmt-items.ensures ∙ sym (plain_block_is c.args.block.now) ∙ plain) c.loop-stmt-test.true c.stmt-item.is in
    let more = reached _ _ _ (stmts_more store frame c.as_slice-stmt-items.result.now c.loop-stmt.stmt-index c.stmt-item.result c.loop-stmt.locals.top c.loop-stmt.state.run c.loop-stmt-test.true c.stmt-item.is) in
    further_on so_far (further_on more (before_more _ (returned _ _ _ _ _ _ c.in-Returns.is (c.in_ok-run_stmt.ensures.acts one store (stays so_far is) opens))))

pub run_block-returns-in-Reverts-clause-acts : goal.run_block-returns-in-Reverts-clause-acts
run_block-returns-in-Reverts-clause-acts g t c = λ plain store is opens.
    let frame = framed c.args.frame.now opens in
    let so_far = c.loop-stmt.invariant.comes plain store is opens in
    let one = every_one is_plain_stmt c.as_slice-stmt-items.result.now c.loop-stmt.stmt-index c.stmt-item.result (ap (λ stmts. every (map is_plain_stmt stmts)) c.as_slice-stmt-items.ensures ∙ sym (plain_block_is c.args.block.now) ∙ plain) c.loop-stmt-test.true c.stmt-item.is in
    let more = reached _ _ _ (stmts_more store frame c.as_slice-stmt-items.result.now c.loop-stmt.stmt-index c.stmt-item.result c.loop-stmt.locals.top c.loop-stmt.state.run c.loop-stmt-test.true c.stmt-item.is) in
    further_on so_far (further_on more (before_more _ (reverted _ _ _ _ _ _ c.in-Reverts.is (c.in_ok-run_stmt.ensures.acts one store (stays so_far is) opens))))

pub run_block-returns-in_err-run_stmt-clause-acts : goal.run_block-returns-in_err-run_stmt-clause-acts
run_block-returns-in_err-run_stmt-clause-acts g t c = λ plain store is opens.
    let frame = framed c.args.frame.now opens in
    let so_far = c.loop-stmt.invariant.comes plain store is opens in
    let one = every_one is_plain_stmt c.as_slice-stmt-items.result.now c.loop-stmt.stmt-index c.stmt-item.result (ap (λ stmts. every (map is_plain_stmt stmts)) c.as_slice-stmt-items.ensures ∙ sym (plain_block_is c.args.block.now) ∙ plain) c.loop-stmt-test.true c.stmt-item.is in
    let more = reached _ _ _ (stmts_more store frame c.as_slice-stmt-items.result.now c.loop-stmt.stmt-index c.stmt-item.result c.loop-stmt.locals.top c.loop-stmt.state.run c.loop-stmt-test.true c.stmt-item.is) in
    failed_move _ _ _ _ _ _ _ c.from_residual.ensures.1 (on_to_end _ _ (further_on so_far more) (ends_more _ _ _ _ _ (c.in_err-run_stmt.ensures.acts one store (stays so_far is) opens)))

pub run_block-returns-clause-acts : goal.run_block-returns-clause-acts
run_block-returns-clause-acts g t c = λ plain store is opens.
    let frame = framed c.args.frame.now opens in
    let so_far = c.loop-stmt.invariant.comes plain store is opens in
    further_on so_far (reached _ _ _ (ap (λ stmts. done_stmts stmts c.loop-stmt.locals.top store frame c.loop-stmt.state.run) (none_left c.as_slice-stmt-items.result.now c.loop-stmt.stmt-index c.loop-stmt-test.false)))

pub repeat-returns-in_err-operand-clause-acts : goal.repeat-returns-in_err-operand-clause-acts
repeat-returns-in_err-operand-clause-acts g t c = λ cond body store is opens.
    let frame = framed c.args.frame.now opens in
    let so_far = c.loop-state.invariant.comes cond body store is opens in
    let more = reached _ _ _ (turns_more store frame c.loop-state.turns c.args.cond.now c.args.body.now c.loop-state.locals.top c.loop-state.state.run) in
    failed_move _ _ _ _ _ _ _ c.from_residual.ensures.1 (on_to_end _ _ (further_on so_far more) (ends_more _ _ _ _ _ (c.in_err-operand.ensures cond store (stays so_far is) opens)))

pub repeat-returns-then-number-eq0-clause-acts : goal.repeat-returns-then-number-eq0-clause-acts
repeat-returns-then-number-eq0-clause-acts g t c = λ cond body store is opens.
    let frame = framed c.args.frame.now opens in
    let so_far = c.loop-state.invariant.comes cond body store is opens in
    let more = reached _ _ _ (turns_more store frame c.loop-state.turns c.args.cond.now c.args.body.now c.loop-state.locals.top c.loop-state.state.run) in
    let value = c.in_ok-operand.ensures cond store (stays so_far is) opens in
    further_on so_far (further_on more (further_on (before_more _ value) (reached _ _ _ (ap (λ (part : Part Flow). part c.operand.new.state.run) (at_zero_zero c.operand.new.out _ _ c.if-number-eq0.true)))))

pub repeat-returns-in_err-charge-clause-acts : goal.repeat-returns-in_err-charge-clause-acts
repeat-returns-in_err-charge-clause-acts g t c = λ cond body store is opens.
    let frame = framed c.args.frame.now opens in
    let so_far = c.loop-state.invariant.comes cond body store is opens in
    let more = reached _ _ _ (turns_more store frame c.loop-state.turns c.args.cond.now c.args.body.now c.loop-state.locals.top c.loop-state.state.run) in
    let value = c.in_ok-operand.ensures cond store (stays so_far is) opens in
    let on = reached _ _ _ (ap (λ (part : Part Flow). part c.operand.new.state.run) (at_zero_above c.operand.new.out _ _ (omega (arith, c.if-number-eq0.false)))) in
    failed_move _ _ _ _ _ _ _ c.from_residual-in_err-charge.ensures.1 (on_to_end _ _ (further_on so_far (further_on more (further_on (before_more _ value) on))) (ends_more _ _ _ _ _ (c.in_err-charge.ensures.does store (stays value (stays so_far is)) opens)))

pub repeat-returns-in_err-run_block-clause-acts : goal.repeat-returns-in_err-run_block-clause-acts
repeat-returns-in_err-run_block-clause-acts g t c = λ cond body store is opens.
    let frame = framed c.args.frame.now opens in
    let so_far = c.loop-state.invariant.comes cond body store is opens in
    let more = reached _ _ _ (turns_more store frame c.loop-state.turns c.args.cond.now c.args.body.now c.loop-state.locals.top c.loop-state.state.run) in
    let value = c.in_ok-operand.ensures cond store (stays so_far is) opens in
    let on = reached _ _ _ (ap (λ (part : Part Flow). part c.operand.new.state.run) (at_zero_above c.operand.new.out _ _ (omega (arith, c.if-number-eq0.false)))) in
    let paid = c.in_ok-charge.ensures.does store (stays value (stays so_far is)) opens in
    failed_move _ _ _ _ _ _ _ c.from_residual-in_err-run_block.ensures.1 (on_to_end _ _ (further_on so_far (further_on more (further_on (before_more _ value) (further_on on (before_more _ paid))))) (ends_more _ _ _ _ _ (c.in_err-run_block.ensures.acts body store (stays paid (stays value (stays so_far is))) opens)))

pub repeat-returns-in-Returns-clause-acts : goal.repeat-returns-in-Returns-clause-acts
repeat-returns-in-Returns-clause-acts g t c = λ cond body store is opens.
    let frame = framed c.args.frame.now opens in
    let so_far = c.loop-state.invariant.comes cond body store is opens in
    let more = reached _ _ _ (turns_more store frame c.loop-state.turns c.args.cond.now c.args.body.now c.loop-state.locals.top c.loop-state.state.run) in
    let value = c.in_ok-operand.ensures cond store (stays so_far is) opens in
    let on = reached _ _ _ (ap (λ (part : Part Flow). part c.operand.new.state.run) (at_zero_above c.operand.new.out _ _ (omega (arith, c.if-number-eq0.false)))) in
    let paid = c.in_ok-charge.ensures.does store (stays value (stays so_far is)) opens in
    further_on (further_on so_far (further_on more (further_on (before_more _ value) (further_on on (before_more _ paid))))) (before_more _ (returned _ _ _ _ _ _ c.in-Returns.is (c.in_ok-run_block.ensures.acts body store (stays paid (stays value (stays so_far is))) opens)))

pub repeat-returns-in-Reverts-clause-acts : goal.repeat-returns-in-Reverts-clause-acts
repeat-returns-in-Reverts-clause-acts g t c = λ cond body store is opens.
    let frame = framed c.args.frame.now opens in
    let so_far = c.loop-state.invariant.comes cond body store is opens in
    let more = reached _ _ _ (turns_more store frame c.loop-state.turns c.args.cond.now c.args.body.now c.loop-state.locals.top c.loop-state.state.run) in
    let value = c.in_ok-operand.ensures cond store (stays so_far is) opens in
    let on = reached _ _ _ (ap (λ (part : Part Flow). part c.operand.new.state.run) (at_zero_above c.operand.new.out _ _ (omega (arith, c.if-number-eq0.false)))) in
    let paid = c.in_ok-charge.ensures.does store (stays value (stays so_far is)) opens in
    further_on (further_on so_far (further_on more (further_on (before_more _ value) (further_on on (before_more _ paid))))) (before_more _ (reverted _ _ _ _ _ _ c.in-Reverts.is (c.in_ok-run_block.ensures.acts body store (stays paid (stays value (stays so_far is))) opens)))

pub repeat-returns-then-turns-eq0-clause-acts : goal.repeat-returns-then-turns-eq0-clause-acts
repeat-returns-then-turns-eq0-clause-acts g t c = λ cond body store is opens.
    let frame = framed c.args.frame.now opens in
    let so_far = c.loop-state.invariant.comes cond body store is opens in
    let more = reached _ _ _ (turns_more store frame c.loop-state.turns c.args.cond.now c.args.body.now c.loop-state.locals.top c.loop-state.state.run) in
    let value = c.in_ok-operand.ensures cond store (stays so_far is) opens in
    let on = reached _ _ _ (ap (λ (part : Part Flow). part c.operand.new.state.run) (at_zero_above c.operand.new.out _ _ (omega (arith, c.if-number-eq0.false)))) in
    let paid = c.in_ok-charge.ensures.does store (stays value (stays so_far is)) opens in
    further_on (further_on so_far (further_on more (further_on (before_more _ value) (further_on on (before_more _ paid))))) (further_on (before_more _ (continued _ _ _ _ _ _ c.in-Continues.is (c.in_ok-run_block.ensures.acts body store (stays paid (stays value (stays so_far is))) opens)))
    (record {
      same = ap (λ n. turned n c.args.cond.now c.args.body.now c.run_block.new.locals.top store frame c.run_block.new.state.run) c.if-turns-eq0.true ∙ no_turns store frame c.args.cond.now c.args.body.now c.run_block.new.locals.top c.run_block.new.state.run ∙ ap (λ s. Exit RunsOut s) (sym c.spend.ensures.run);
      backing = c.spend.ensures.backing;
      spends = omega (arith, ap (λ (s : State). s.fuel) c.spend.ensures.run);
    }))

pub repeat-loop-state-preserved : goal.repeat-loop-state-preserved
repeat-loop-state-preserved g t c = record {
  comes = λ cond body store is opens.
      let frame = framed c.args.frame.now opens in
      let so_far = c.loop-state.invariant.comes cond body store is opens in
      let more = reached _ _ _ (turns_more store frame c.loop-state.turns c.args.cond.now c.args.body.now c.loop-state.locals.top c.loop-state.state.run) in
      let value = c.in_ok-operand.ensures cond store (stays so_far is) opens in
      let on = reached _ _ _ (ap (λ (part : Part Flow). part c.operand.new.state.run) (at_zero_above c.operand.new.out _ _ (omega (arith, c.if-number-eq0.false)))) in
      let paid = c.in_ok-charge.ensures.does store (stays value (stays so_far is)) opens in
      further_on (further_on so_far (further_on more (further_on (before_more _ value) (further_on on (before_more _ paid))))) (further_on (before_more _ (continued _ _ _ _ _ _ c.in-Continues.is (c.in_ok-run_block.ensures.acts body store (stays paid (stays value (stays so_far is))) opens))) (reached _ _ _ (ap (λ n. turned n c.args.cond.now c.args.body.now c.run_block.new.locals.top store frame c.run_block.new.state.run) (omega (arith, c.if-turns-eq0.false)))));
  below = c.run_block.ensures.below ∙ c.loop-state.invariant.below;
}
