use Rattle.ecf_precedence.proofs.CoverLaws as proved
use Rattle.ecf_precedence.proofs.reduced_is_before.Goals as goal

pub returns : goal.returns
returns c = proved.reduced_is_before
