use Rattle.ecf_verdicts.proofs.SortingLaws as laws
use Rattle.ecf_verdicts.proofs.swaps_into_order.Goals as goal

pub returns : goal.returns
returns c = laws.swaps_into_order
