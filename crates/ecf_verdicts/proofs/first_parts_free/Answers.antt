use Rattle.ecf_verdicts.proofs.SwapLaws as laws
use Rattle.ecf_verdicts.proofs.first_parts_free.Goals as goal

pub returns : goal.returns
returns c = laws.first_parts_free
