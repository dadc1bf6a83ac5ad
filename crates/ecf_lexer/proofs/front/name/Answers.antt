use Rattle.std.proofs.Common.{◌≡◌, take, subst, sym, ap, ◌∙◌}
use Rattle.ecf_grammar.specs.declared.tokens.Kind.TheVariants as kind
use Rattle.ecf_grammar.specs.Spelling.{word_text, is_name_byte, IsName}
use Rattle.ecf_grammar.specs.Reading.Piece.{TokenText}
use Rattle.std.specs.List.{prefix_len}
use Rattle.ecf_lexer.specs.Front.{IsFront}
use Rattle.ecf_lexer.proofs.FrontLaws.{name_front, identifier_front}
use Rattle.ecf_lexer.proofs.front.name.Goals as goal

pub returns-in-Some : goal.returns-in-Some
returns-in-Some c =
    let text = c.args.text.now in
    let len = c.name_len-len.ensures in
    let spelled : take (prefix_len is_name_byte text) text ≡ word_text c.in-Some.word = ap (λ n. take n text) (sym len) ∙ c.in-Some.ensures in (
      take (prefix_len is_name_byte text) text,
      tt,
      subst (λ n. IsFront text (TokenText (kind.Word c.in-Some.word) (take (prefix_len is_name_byte text) text)) n) (sym len) (name_front c.lexemes_begin_apart.ensures text (kind.Word c.in-Some.word) c.requires spelled),
    )

pub returns-in-None : goal.returns-in-None
returns-in-None c =
    let text = c.args.text.now in
    let len = c.name_len-len.ensures in
    let free = c.in-None.ensures in
    let spelled : IsName (take (prefix_len is_name_byte text) text) = record { identifier = identifier_front text c.requires; free = λ w e. free w (ap (λ n. take n text) len ∙ e) } in (
      take (prefix_len is_name_byte text) text,
      tt,
      subst (λ n. IsFront text (TokenText kind.Name (take (prefix_len is_name_byte text) text)) n) (sym len) (name_front c.lexemes_begin_apart.ensures text kind.Name c.requires spelled),
    )
