use Rattle.std.proofs.lemmas.Result.{err_from_is_err_and}
use Rattle.ecf_lexer.proofs.AnswerLaws.{reads_whole, error_where_read, error_where_faulty}
use Rattle.ecf_lexer.proofs.lexer.lex.Goals as goal

pub returns-in_err-at-clause-reads : goal.returns-in_err-at-clause-reads
returns-in_err-at-clause-reads c =
    let p = err_from_is_err_and c.from_residual.result c.from_residual.ensures.1 in
    rw (p.1, p.2) (λ tokens h. error_where_read c.read_or_refused.ensures c.args.source.now tokens _ c.in_err-at.ensures.refused h)

pub returns-in_err-at-clause-refuses : goal.returns-in_err-at-clause-refuses
returns-in_err-at-clause-refuses c =
    let p = err_from_is_err_and c.from_residual.result c.from_residual.ensures.1 in
    rw (p.1, p.2) (λ fault h. error_where_faulty c.one_fault.ensures c.args.source.now fault _ c.in_err-at.ensures.refused h)

pub returns-clause-reads : goal.returns-clause-reads
returns-clause-reads c = let whole = reads_whole _ _ _ c.loop-at.invariant c.loop-at-test.false in λ tokens h. c.one_reading.ensures c.args.source.now _ tokens whole h

pub returns-clause-refuses : goal.returns-clause-refuses
returns-clause-refuses c = let whole = reads_whole _ _ _ c.loop-at.invariant c.loop-at-test.false in λ fault h. c.read_or_refused.ensures c.args.source.now _ fault whole h

pub returns-clause-spelled : goal.returns-clause-spelled
returns-clause-spelled c = c.tokens_in_place.ensures.spelled c.args.source.now _ (reads_whole _ _ _ c.loop-at.invariant c.loop-at-test.false)

pub returns-clause-in_order : goal.returns-clause-in_order
returns-clause-in_order c = c.tokens_in_place.ensures.in_order c.args.source.now _ (reads_whole _ _ _ c.loop-at.invariant c.loop-at-test.false)
