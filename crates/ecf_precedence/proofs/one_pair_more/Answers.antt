use Rattle.ecf_precedence.proofs.PathLaws as proved
use Rattle.ecf_precedence.proofs.one_pair_more.Goals as goal

pub returns : goal.returns
returns c = proved.one_pair_more
