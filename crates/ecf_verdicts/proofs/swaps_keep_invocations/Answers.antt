use Rattle.ecf_verdicts.proofs.SwapLaws as laws
use Rattle.ecf_verdicts.proofs.swaps_keep_invocations.Goals as goal

pub returns : goal.returns
returns c = laws.swaps_keep_invocations
