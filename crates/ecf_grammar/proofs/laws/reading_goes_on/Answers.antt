use Rattle.ecf_grammar.proofs.CutLaws.{piece_len}
use Rattle.ecf_grammar.proofs.ReadingLaws.{reading_goes_on}
use Rattle.ecf_grammar.proofs.laws.reading_goes_on.Goals as goal

pub returns-clause-further : goal.returns-clause-further
returns-clause-further c = reading_goes_on

pub returns-clause-some : goal.returns-clause-some
returns-clause-some c = piece_len
