use Rattle.ecf_verdicts.proofs.ReceiptLaws as laws
use Rattle.ecf_verdicts.proofs.serial_goes_on.Goals as goal

pub returns : goal.returns
returns c = laws.serial_goes_on
