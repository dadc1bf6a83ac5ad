use Rattle.ecf_stores.specs.PairLaws as proved
use Rattle.ecf_stores.proofs.same_finds_same_pairs.Goals as goal

pub returns : goal.returns
returns c = proved.same_finds_same_pairs
