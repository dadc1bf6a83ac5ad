use Rattle.ecf_laws.proofs.FuelLaws as proved
use Rattle.ecf_laws.proofs.more_turns_change_nothing.Goals as goal

pub returns : goal.returns
returns c = proved.more_turns_change_nothing
