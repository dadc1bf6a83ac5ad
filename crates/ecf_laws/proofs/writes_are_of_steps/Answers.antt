use Rattle.ecf_laws.proofs.ReplayLaws as proved
use Rattle.ecf_laws.proofs.writes_are_of_steps.Goals as goal

pub returns : goal.returns
returns c = proved.writes_are_of_steps
