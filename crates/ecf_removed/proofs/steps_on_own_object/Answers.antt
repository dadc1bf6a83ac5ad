use Rattle.ecf_removed.proofs.InvocationLaws as proved
use Rattle.ecf_removed.proofs.steps_on_own_object.Goals as goal

pub returns : goal.returns
returns c = proved.steps_on_own_object
