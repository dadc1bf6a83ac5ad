use Rattle.ecf_core.proofs.RefusalLaws as proved
use Rattle.ecf_core.proofs.refused_changes_nothing.Goals as goal

pub returns : goal.returns
returns c = proved.refused_changes_nothing
