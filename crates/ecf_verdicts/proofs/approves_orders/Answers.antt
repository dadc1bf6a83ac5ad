use Rattle.ecf_verdicts.proofs.VerdictLaws as laws
use Rattle.ecf_verdicts.proofs.approves_orders.Goals as goal

pub returns : goal.returns
returns c = laws.approves_orders
