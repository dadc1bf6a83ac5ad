use Rattle.ecf_parser.proofs.FaultLaws.{one_tree}
use Rattle.ecf_parser.proofs.laws.one_tree.Goals as goal

pub returns : goal.returns
returns c = one_tree
