use Rattle.ecf_core.proofs.GrowthLaws as proved
use Rattle.ecf_core.proofs.receipts_grow.Goals as goal

pub returns : goal.returns
returns c = proved.receipts_grow
