use Rattle.ecf_core.proofs.GrowthLaws as proved
use Rattle.ecf_core.proofs.journal_grows.Goals as goal

pub returns : goal.returns
returns c = proved.journal_grows
