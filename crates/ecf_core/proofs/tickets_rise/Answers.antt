use Rattle.ecf_core.proofs.BookLaws as proved
use Rattle.ecf_core.proofs.tickets_rise.Goals as goal

pub returns : goal.returns
returns c = proved.tickets_rise
