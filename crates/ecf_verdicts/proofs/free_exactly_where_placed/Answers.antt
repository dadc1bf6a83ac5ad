use Rattle.ecf_verdicts.proofs.FreeLaws as laws
use Rattle.ecf_verdicts.proofs.free_exactly_where_placed.Goals as goal

pub returns : goal.returns
returns c = laws.free_exactly_where_placed
