use Rattle.std.proofs.Common.{subst, sym}
use Rattle.ecf_grammar.specs.Reading.{Piece}
use Rattle.ecf_lexer.specs.Front.{IsGap, IsFront}
use Rattle.ecf_lexer.proofs.FrontLaws.{comment_front}
use Rattle.ecf_lexer.proofs.front.comment.Goals as goal

pub returns : goal.returns
returns c = subst (λ n. (piece : Piece) × IsGap piece × IsFront c.args.text.now piece n) (sym c.line_len.ensures) (comment_front c.lexemes_begin_apart.ensures c.args.text.now c.requires)
