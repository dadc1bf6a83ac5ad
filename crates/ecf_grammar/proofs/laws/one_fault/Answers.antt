use Rattle.ecf_grammar.proofs.ReadingLaws.{one_fault}
use Rattle.ecf_grammar.proofs.laws.one_fault.Goals as goal

pub returns : goal.returns
returns c = one_fault
