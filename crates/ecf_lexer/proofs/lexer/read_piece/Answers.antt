use Rattle.std.proofs.Common.{◌+◌, drop, arith, subst, sym}
use Rattle.ecf_lexer.specs.Front.{IsFrontOf}
use Rattle.ecf_lexer.specs.Progress.{ReadsTo}
use Rattle.ecf_lexer.proofs.StepLaws.{rest_from, reads_gap, reads_token}
use Rattle.ecf_lexer.proofs.lexer.read_piece.Goals as goal

pub returns-in-Gap-clause-further : goal.returns-in-Gap-clause-further
returns-in-Gap-clause-further c =
    let source = c.args.source.now in
    let found = subst (λ t. IsFrontOf t c.in-Some.front) (rest_from source c.args.at) c.in-Some.ensures in
    let front = subst (λ f. IsFrontOf (drop c.args.at source) f) c.in-Gap.is found in
    let step = reads_gap (record { further = c.reading_goes_on.ensures.further; some = c.reading_goes_on.ensures.some }) source c.args.tokens.now.items c.args.at front.0 c.in-Gap.len c.requires.so_far front.1 front.2 in
    let some = step.some in
    (omega arith, step.reads)

pub returns-in_ok-push-in-Token-clause-further : goal.returns-in_ok-push-in-Token-clause-further
returns-in_ok-push-in-Token-clause-further c =
    let source = c.args.source.now in
    let tokens = c.args.tokens.now in
    let found = subst (λ t. IsFrontOf t c.in-Some.front) (rest_from source c.args.at) c.in-Some.ensures in
    let front = subst (λ f. IsFrontOf (drop c.args.at source) f) c.in-Token.is found in
    let few = c.requires.so_far.reads.few in
    let len = c.len-full.ensures in
    let free = c.if-full-2.false in
    let step = reads_token (record { further = c.reading_goes_on.ensures.further; some = c.reading_goes_on.ensures.some }) source tokens.items c.args.at c.in-Token.kind front.0 c.in-Token.len c.requires.so_far front.1 front.2 (omega (arith, tokens.ok.0)) in
    let some = step.some in
    (omega arith, subst (λ ts. ReadsTo source ts (c.args.at + c.in-Token.len)) (sym c.in_ok-push-in-Token.ensures.ok) step.reads)
