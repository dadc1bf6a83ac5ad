use Rattle.ecf_stores.specs.PairLaws as proved
use Rattle.ecf_stores.proofs.removal_keeps_rising.Goals as goal

pub returns : goal.returns
returns c = proved.removal_keeps_rising
