use Rattle.ecf_core.proofs.DraftedLaws as proved
use Rattle.ecf_core.proofs.draft_is_judged.Goals as goal

pub returns : goal.returns
returns c = proved.draft_is_judged
