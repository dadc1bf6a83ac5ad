use Rattle.ecf_core.specs.RoundLemmas.{chain}
use Rattle.ecf_core.proofs.rounds_chain.Goals as goal

pub returns : goal.returns
returns c = chain ⊥
