use Rattle.ecf_laws.proofs.DraftLaws as proved
use Rattle.ecf_laws.proofs.run_stands.Goals as goal

pub returns : goal.returns
returns c = proved.run_stands
