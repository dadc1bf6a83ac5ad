use Rattle.std.proofs.Common.{sym, subst, ◌∙◌}
use Rattle.std.specs.Prelude.{MatchOption}
use Rattle.ecf_lexer.specs.Front.{IsFrontOf, BeginsNothing}
use Rattle.ecf_lexer.proofs.FrontLaws.{sign_pair_front, sign_front, nothing_front, take_one}
use Rattle.ecf_lexer.proofs.front.sign.Goals as goal

pub returns-in-Some : goal.returns-in-Some
returns-in-Some c = sign_pair_front c.lexemes_begin_apart.ensures c.args.text.now c.in-Some.sign c.in-Some.ensures.0 c.in-Some.ensures.1

pub returns-in_ok-sign-in-None : goal.returns-in_ok-sign-in-None
returns-in_ok-sign-in-None c =
    sign_front c.lexemes_begin_apart.ensures c.in_ok-first-in-None.field-0.now c.args.text.now c.in_ok-sign-in-None.sign (sym c.in_ok-first-in-None.ensures.value) c.in_ok-sign-in-None.ensures c.in-None.ensures c.requires.no_comment

pub returns-in_err-sign-in-None : goal.returns-in_err-sign-in-None
returns-in_err-sign-in-None c =
    let text = c.args.text.now in
    let first = take_one text c.in_ok-first-in-None.field-0.now c.in_ok-first-in-None.ensures.value in
    let none = c.in_err-sign-in-None.ensures in
    subst (λ r. MatchOption r (BeginsNothing text) (IsFrontOf text)) (sym c.from_residual-in_err-sign-in-None.ensures)
    (nothing_front c.lexemes_begin_apart.ensures c.reading_goes_on.ensures.some text c.requires.no_comment c.requires.no_blank c.requires.no_name c.requires.no_digit c.in-None.ensures (λ s e. none s (e ∙ first)))
