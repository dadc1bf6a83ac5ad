use Rattle.ecf_verdicts.proofs.CaseLaws as laws
use Rattle.ecf_verdicts.proofs.start_outside_case.Goals as goal

pub returns : goal.returns
returns c = laws.start_outside_case
