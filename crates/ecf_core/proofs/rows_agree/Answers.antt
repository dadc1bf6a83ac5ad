use Rattle.ecf_core.proofs.BookLaws as proved
use Rattle.ecf_core.proofs.rows_agree.Goals as goal

pub returns : goal.returns
returns c = proved.rows_agree
