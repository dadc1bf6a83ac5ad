use Rattle.ecf_verdicts.proofs.AtLaws as laws
use Rattle.ecf_verdicts.proofs.at_is_shortest.Goals as goal

pub returns : goal.returns
returns c = laws.at_is_shortest
