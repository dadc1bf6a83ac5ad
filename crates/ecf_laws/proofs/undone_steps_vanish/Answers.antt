use Rattle.ecf_laws.proofs.ChargeLaws as proved
use Rattle.ecf_laws.proofs.undone_steps_vanish.Goals as goal

pub returns : goal.returns
returns c = proved.undone_steps_vanish
