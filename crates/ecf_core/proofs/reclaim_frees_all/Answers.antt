use Rattle.ecf_core.proofs.ReplyLaws as proved
use Rattle.ecf_core.proofs.reclaim_frees_all.Goals as goal

pub returns : goal.returns
returns c = proved.reclaim_frees_all
