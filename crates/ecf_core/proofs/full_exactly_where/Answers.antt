use Rattle.ecf_core.proofs.QueueLaws as proved
use Rattle.ecf_core.proofs.full_exactly_where.Goals as goal

pub returns : goal.returns
returns c = proved.full_exactly_where
