use Rattle.ecf_grammar.proofs.ReadingLaws.{read_or_refused}
use Rattle.ecf_grammar.proofs.laws.read_or_refused.Goals as goal

pub returns : goal.returns
returns c = read_or_refused
