use Rattle.ecf_core.proofs.StoreLaws as proved
use Rattle.ecf_core.proofs.over_with_rows_left.Goals as goal

pub returns : goal.returns
returns c = proved.over_with_rows_left
