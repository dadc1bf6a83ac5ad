use Rattle.ecf_laws.proofs.FuelLaws as proved
use Rattle.ecf_laws.proofs.runs_end_loops_by_fuel.Goals as goal

pub returns : goal.returns
returns c = proved.runs_end_loops_by_fuel
