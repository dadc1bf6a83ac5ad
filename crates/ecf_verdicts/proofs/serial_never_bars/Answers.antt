use Rattle.ecf_verdicts.proofs.ReceiptLaws as laws
use Rattle.ecf_verdicts.proofs.serial_never_bars.Goals as goal

pub returns : goal.returns
returns c = laws.serial_never_bars
