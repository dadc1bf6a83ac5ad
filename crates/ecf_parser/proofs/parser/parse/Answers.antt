use Rattle.std.proofs.Common.{arith}
use Rattle.ecf_parser.proofs.NestingLaws.{lexemes_len}
use Rattle.ecf_parser.proofs.AnswerLaws.{front_len}
use Rattle.ecf_parser.proofs.parser.parse.Goals as goal

pub overflow_cast-token : goal.overflow_cast-token
overflow_cast-token c =
    let first = c.in-Some.ensures.some c.args.source.now in
    omega (arith, first.within, lexemes_len c.args.source.now c.args.tokens.now, c.requires.few)

pub slice_bounds-parse_shallow-end : goal.slice_bounds-parse_shallow-end
slice_bounds-parse_shallow-end c = front_len c.args.source.now c.args.tokens.now c.in-Some.deep (c.in-Some.ensures.some c.args.source.now)
