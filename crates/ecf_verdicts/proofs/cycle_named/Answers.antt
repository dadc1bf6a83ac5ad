use Rattle.ecf_verdicts.proofs.CycleLaws as laws
use Rattle.ecf_verdicts.proofs.cycle_named.Goals as goal

pub returns : goal.returns
returns c = laws.cycle_named
