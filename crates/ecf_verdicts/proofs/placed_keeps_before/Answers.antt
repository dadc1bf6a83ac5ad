use Rattle.ecf_verdicts.proofs.PlacingLaws as laws
use Rattle.ecf_verdicts.proofs.placed_keeps_before.Goals as goal

pub returns : goal.returns
returns c = laws.placed_keeps_before
