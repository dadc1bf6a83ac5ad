use Rattle.ecf_core.proofs.BookLaws as proved
use Rattle.ecf_core.proofs.each_call_is_legal.Goals as goal

pub returns : goal.returns
returns c = proved.each_call_is_legal
