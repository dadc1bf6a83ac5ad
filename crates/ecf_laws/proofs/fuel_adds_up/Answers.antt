use Rattle.ecf_laws.proofs.ChargeLaws as proved
use Rattle.ecf_laws.proofs.fuel_adds_up.Goals as goal

pub returns : goal.returns
returns c = proved.fuel_adds_up
