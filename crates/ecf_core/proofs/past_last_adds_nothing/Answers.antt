use Rattle.ecf_core.proofs.ReplyLaws as proved
use Rattle.ecf_core.proofs.past_last_adds_nothing.Goals as goal

pub returns : goal.returns
returns c = proved.past_last_adds_nothing
