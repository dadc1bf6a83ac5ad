use Rattle.ecf_removed.proofs.TraceLaws as proved
use Rattle.ecf_removed.proofs.traces_suffice.Goals as goal

pub returns : goal.returns
returns c = proved.traces_suffice
