use Rattle.ecf_laws.proofs.FuelLaws as proved
use Rattle.ecf_laws.proofs.fuel_never_rises.Goals as goal

pub returns : goal.returns
returns c = proved.fuel_never_rises
