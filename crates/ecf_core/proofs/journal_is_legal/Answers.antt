use Rattle.ecf_core.proofs.BookLaws as proved
use Rattle.ecf_core.proofs.journal_is_legal.Goals as goal

pub returns : goal.returns
returns c = proved.journal_is_legal
