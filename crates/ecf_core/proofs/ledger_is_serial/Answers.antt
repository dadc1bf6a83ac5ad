use Rattle.ecf_core.proofs.BookLaws as proved
use Rattle.ecf_core.proofs.ledger_is_serial.Goals as goal

pub returns : goal.returns
returns c = proved.ledger_is_serial
