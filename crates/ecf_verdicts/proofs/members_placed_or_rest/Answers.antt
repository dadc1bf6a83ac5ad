use Rattle.ecf_verdicts.proofs.PlacingLaws as laws
use Rattle.ecf_verdicts.proofs.members_placed_or_rest.Goals as goal

pub returns : goal.returns
returns c = laws.members_placed_or_rest
