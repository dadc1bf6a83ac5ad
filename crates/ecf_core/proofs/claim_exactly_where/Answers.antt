use Rattle.ecf_core.proofs.ReplyLaws as proved
use Rattle.ecf_core.proofs.claim_exactly_where.Goals as goal

pub returns : goal.returns
returns c = proved.claim_exactly_where
