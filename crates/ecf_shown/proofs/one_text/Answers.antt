use Rattle.ecf_shown.proofs.PlaceLaws as proved
use Rattle.ecf_shown.proofs.one_text.Goals as goal

pub returns : goal.returns
returns c = proved.one_text
