use Rattle.ecf_stores.specs.PairLaws as proved
use Rattle.ecf_stores.proofs.put_back_undoes_set.Goals as goal

pub returns : goal.returns
returns c = proved.put_back_undoes_set
