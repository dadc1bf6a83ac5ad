use Rattle.std.proofs.Common.{◌≡◌, false, ap, ◌∙◌}
use Rattle.ecf_lines.specs.Line.{is_skipped}
use Rattle.ecf_stream.proofs.CallLaws.{line_says}
use Rattle.ecf_stream.proofs.WordLaws.{seen}
use Rattle.ecf_stream.proofs.saying.read_line.Goals as goal

pub returns-in-Ok-clause-fits : goal.returns-in-Ok-clause-fits
returns-in-Ok-clause-fits c =
    let skip : is_skipped c.args.line.now ≡ false = cc (c.if-is_skipped.ensures, c.if-is_skipped.false) in
    c.lines_fit.ensures c.args.typed.now c.args.line.now c.in-Ok.tx c.requires.numbered (line_says c.args.typed.now c.args.line.now (seen c.as_slice-2.result.now) c.in-Ok.tx skip (ap seen c.as_slice-2.ensures.value ∙ c.in_ok-words.ensures) c.in-Ok.ensures)
