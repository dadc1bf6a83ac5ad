use Rattle.ecf_precedence.proofs.StepLaws as proved
use Rattle.ecf_precedence.proofs.one_step_more.Goals as goal

pub returns : goal.returns
returns c = proved.one_step_more
