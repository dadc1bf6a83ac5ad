use Rattle.ecf_core.proofs.DueLaws as proved
use Rattle.ecf_core.proofs.events_are_due.Goals as goal

pub returns : goal.returns
returns c = proved.events_are_due
