use Rattle.ecf_laws.proofs.StepLaws as proved
use Rattle.ecf_laws.proofs.steps_are_charged.Goals as goal

pub returns : goal.returns
returns c = proved.steps_are_charged
