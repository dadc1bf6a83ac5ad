use Rattle.ecf_core.proofs.EventLaws as proved
use Rattle.ecf_core.proofs.every_list_of_events.Goals as goal

pub returns : goal.returns
returns c = proved.every_list_of_events
