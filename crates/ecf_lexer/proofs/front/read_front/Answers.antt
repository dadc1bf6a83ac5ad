use Rattle.std.proofs.Common.{sym, arith}
use Rattle.ecf_lexer.proofs.FrontLaws.{blank_front}
use Rattle.ecf_lexer.proofs.front.read_front.Goals as goal

pub returns-then-is_blank : goal.returns-then-is_blank
returns-then-is_blank c =
    let item = c.in_ok-first.ensures.item in
    blank_front c.lexemes_begin_apart.ensures c.in_ok-first.field-0.now c.args.text.now (omega (arith, item.3.0)) (item.3.1 0) (sym c.if-is_blank.ensures)
