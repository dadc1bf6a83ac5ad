use Rattle.std.proofs.Common.{rules}
use Rattle.ecf_stream.proofs.line.read_tx_by.Goals as goal

pub returns-clause-fits : goal.returns-clause-fits
returns-clause-fits c = c.lines_fit.ensures c.args.typed.now c.args.line.now c.in_ok-tx_of_words.field-0 c.requires.numbered (search rules)
