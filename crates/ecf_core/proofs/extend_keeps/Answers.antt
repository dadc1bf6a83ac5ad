use Rattle.ecf_core.proofs.ExtensionLaws as proved
use Rattle.ecf_core.proofs.extend_keeps.Goals as goal

pub returns : goal.returns
returns c = proved.extend_keeps
