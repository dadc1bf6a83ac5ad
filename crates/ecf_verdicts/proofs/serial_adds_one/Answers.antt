use Rattle.ecf_verdicts.proofs.ReceiptLaws as laws
use Rattle.ecf_verdicts.proofs.serial_adds_one.Goals as goal

pub returns : goal.returns
returns c = laws.serial_adds_one
