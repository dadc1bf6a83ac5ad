use Rattle.std.proofs.Common.{◌≡◌, None, sym, ◌∙◌, arith}
use Rattle.ecf_stream.proofs.DigitLaws.{two_digits}
use Rattle.ecf_stream.proofs.saying.two_digits.Goals as goal

pub returns-in_err-number : goal.returns-in_err-number
returns-in_err-number c = cc (c.from_residual.ensures, c.in_err-number.ensures.value, two_digits c.args.word.now (omega arith))
