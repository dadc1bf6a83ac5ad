use Rattle.ecf_verdicts.proofs.PlacingLaws as laws
use Rattle.ecf_verdicts.proofs.places_members.Goals as goal

pub returns : goal.returns
returns c = laws.places_members
