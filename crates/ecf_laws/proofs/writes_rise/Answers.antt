use Rattle.ecf_laws.proofs.DraftLaws as proved
use Rattle.ecf_laws.proofs.writes_rise.Goals as goal

pub returns : goal.returns
returns c = proved.writes_rise
