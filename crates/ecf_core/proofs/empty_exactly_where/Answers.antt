use Rattle.ecf_core.proofs.QueueLaws as proved
use Rattle.ecf_core.proofs.empty_exactly_where.Goals as goal

pub returns : goal.returns
returns c = proved.empty_exactly_where
