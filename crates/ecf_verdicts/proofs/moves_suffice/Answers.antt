use Rattle.ecf_verdicts.proofs.CycleLaws as laws
use Rattle.ecf_verdicts.proofs.moves_suffice.Goals as goal

pub returns : goal.returns
returns c = laws.moves_suffice
