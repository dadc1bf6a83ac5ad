use Rattle.ecf_removed.proofs.InvocationLaws as proved
use Rattle.ecf_removed.proofs.invocations_repeat_alone.Goals as goal

pub returns : goal.returns
returns c = proved.invocations_repeat_alone
