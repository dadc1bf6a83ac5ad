use Rattle.ecf_verdicts.proofs.PlacingLaws as laws
use Rattle.ecf_verdicts.proofs.before_exactly_where.Goals as goal

pub returns : goal.returns
returns c = laws.before_exactly_where
