use Rattle.ecf_removed.proofs.InvocationLaws as proved
use Rattle.ecf_removed.proofs.invocations_have_methods.Goals as goal

pub returns : goal.returns
returns c = proved.invocations_have_methods
