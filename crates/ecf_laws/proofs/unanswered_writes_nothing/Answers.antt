use Rattle.ecf_laws.proofs.EndLaws as proved
use Rattle.ecf_laws.proofs.unanswered_writes_nothing.Goals as goal

pub returns : goal.returns
returns c = proved.unanswered_writes_nothing
