use Rattle.ecf_verdicts.proofs.VerdictLaws as laws
use Rattle.ecf_verdicts.proofs.vetoed_exactly_where.Goals as goal

pub returns : goal.returns
returns c = laws.vetoed_exactly_where
