use Rattle.ecf_verdicts.proofs.AtLaws as laws
use Rattle.ecf_verdicts.proofs.test_tells_free.Goals as goal

pub returns : goal.returns
returns c = laws.test_tells_free
