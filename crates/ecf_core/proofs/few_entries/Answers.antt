use Rattle.ecf_core.proofs.BookLaws as proved
use Rattle.ecf_core.proofs.few_entries.Goals as goal

pub returns : goal.returns
returns c = proved.few_entries
