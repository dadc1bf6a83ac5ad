use Rattle.ecf_verdicts.proofs.FreeLaws as laws
use Rattle.ecf_verdicts.proofs.single_free.Goals as goal

pub returns : goal.returns
returns c = laws.single_free
