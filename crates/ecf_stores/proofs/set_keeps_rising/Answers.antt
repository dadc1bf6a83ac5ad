use Rattle.ecf_stores.specs.PairLaws as proved
use Rattle.ecf_stores.proofs.set_keeps_rising.Goals as goal

pub returns : goal.returns
returns c = proved.set_keeps_rising
