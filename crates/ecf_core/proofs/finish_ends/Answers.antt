use Rattle.ecf_core.proofs.BookLaws as proved
use Rattle.ecf_core.proofs.finish_ends.Goals as goal

pub returns : goal.returns
returns c = proved.finish_ends c.legal_when_whole.ensures
