use Rattle.ecf_stores.specs.PairLaws as proved
use Rattle.ecf_stores.proofs.find_after_set.Goals as goal

pub returns : goal.returns
returns c = proved.find_after_set
