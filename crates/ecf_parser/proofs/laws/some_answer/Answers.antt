use Rattle.ecf_parser.proofs.DecisionLaws.{some_answer}
use Rattle.ecf_parser.proofs.laws.some_answer.Goals as goal

pub returns : goal.returns
returns c = some_answer
