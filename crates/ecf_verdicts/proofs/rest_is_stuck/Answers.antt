use Rattle.ecf_verdicts.proofs.PlacingLaws as laws
use Rattle.ecf_verdicts.proofs.rest_is_stuck.Goals as goal

pub returns : goal.returns
returns c = laws.rest_is_stuck
