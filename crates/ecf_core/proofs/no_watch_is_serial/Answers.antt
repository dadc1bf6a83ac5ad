use Rattle.ecf_core.proofs.BookLaws as proved
use Rattle.ecf_core.proofs.no_watch_is_serial.Goals as goal

pub returns : goal.returns
returns c = proved.no_watch_is_serial
