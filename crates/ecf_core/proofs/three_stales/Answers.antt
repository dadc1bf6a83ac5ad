use Rattle.ecf_core.proofs.BookLaws as proved
use Rattle.ecf_core.proofs.three_stales.Goals as goal

pub returns : goal.returns
returns c = proved.three_stales
