use Rattle.ecf_core.proofs.BookLaws as proved
use Rattle.ecf_core.proofs.over_only_where.Goals as goal

pub returns : goal.returns
returns c = proved.over_only_where
