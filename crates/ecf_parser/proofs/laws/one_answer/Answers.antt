use Rattle.ecf_parser.proofs.DecisionLaws.{one_answer}
use Rattle.ecf_parser.proofs.laws.one_answer.Goals as goal

pub returns : goal.returns
returns c = one_answer
