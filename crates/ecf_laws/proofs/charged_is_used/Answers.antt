use Rattle.ecf_laws.proofs.ChargeLaws as proved
use Rattle.ecf_laws.proofs.charged_is_used.Goals as goal

pub returns : goal.returns
returns c = proved.charged_is_used
