use Rattle.ecf_core.proofs.RefusalLaws as proved
use Rattle.ecf_core.proofs.refused_exactly_where.Goals as goal

pub returns : goal.returns
returns c = proved.refused_exactly_where
