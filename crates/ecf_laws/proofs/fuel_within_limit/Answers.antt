use Rattle.ecf_laws.proofs.EndLaws as proved
use Rattle.ecf_laws.proofs.fuel_within_limit.Goals as goal

pub returns : goal.returns
returns c = proved.fuel_within_limit
