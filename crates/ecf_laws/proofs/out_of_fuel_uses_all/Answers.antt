use Rattle.ecf_laws.proofs.OutOfFuelLaws as proved
use Rattle.ecf_laws.proofs.out_of_fuel_uses_all.Goals as goal

pub returns : goal.returns
returns c = proved.out_of_fuel_uses_all
