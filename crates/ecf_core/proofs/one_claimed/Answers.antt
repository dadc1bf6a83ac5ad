use Rattle.ecf_core.proofs.BookLaws as proved
use Rattle.ecf_core.proofs.one_claimed.Goals as goal

pub returns : goal.returns
returns c = proved.one_claimed
