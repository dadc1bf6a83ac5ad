use Rattle.ecf_verdicts.proofs.CaseLaws as laws
use Rattle.ecf_verdicts.proofs.two_cycles_case.Goals as goal

pub returns : goal.returns
returns c = laws.two_cycles_case
