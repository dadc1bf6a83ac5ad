use Rattle.std.proofs.Common.{◌≡◌, ◌<◌, ◌^◌, true, take, drop, subst, sym, ap, ◌∙◌, arith}
use Rattle.ecf_grammar.specs.declared.tokens.Kind.TheVariants as kind
use Rattle.ecf_decimal.specs.Decimal.{is_numeral, number_value}
use Rattle.ecf_grammar.specs.Reading.Piece.{TokenText}
use Rattle.std.specs.List.{prefix_len}
use Rattle.std.specs.Char.{is_ascii_digit}
use Rattle.ecf_lexer.specs.Front.{IsFront}
use Rattle.ecf_lexer.proofs.FrontLaws.{number_front, digits_numeral}
use Rattle.ecf_lexer.proofs.front.number.Goals as goal

pub returns-in-Some : goal.returns-in-Some
returns-in-Some c =
    let text = c.args.text.now in
    let len = c.digits_len-len.ensures in
    let found = c.in-Some.ensures in
    let small = found.0.1 in
    let value : number_value (take (prefix_len is_ascii_digit text) text) ≡ c.in-Some.value = ap (λ n. number_value (take n text)) (sym len) ∙ sym found.1 in (
      take (prefix_len is_ascii_digit text) text,
      omega (arith, small, found.1),
      subst (λ n. IsFront text (TokenText (kind.Number c.in-Some.value) (take (prefix_len is_ascii_digit text) text)) n) (sym len) (number_front c.lexemes_begin_apart.ensures text c.in-Some.value c.requires value),
    )

pub returns-in-None : goal.returns-in-None
returns-in-None c =
    let text = c.args.text.now in
    let n = c.digits_len-len.result in
    let len = c.digits_len-len.ensures in
    let numeral : is_numeral (take n text) ≡ true = subst (λ m. is_numeral (take m text) ≡ true) (sym len) (digits_numeral text c.requires) in
    let none = c.in-None.ensures in
    let wide : number_value (take n text) < 2 ^ 128 → ⊥ = λ small. none (numeral, small) in
    let value : number_value (take (prefix_len is_ascii_digit text) text) ≡ number_value (take n text) = ap (λ m. number_value (take m text)) (sym len) in
    let front = number_front c.lexemes_begin_apart.ensures text (number_value (take n text)) c.requires value in
    (number_value (take n text), omega (arith, wide), (take (prefix_len is_ascii_digit text) text, drop (prefix_len is_ascii_digit text) text, front.longest))
