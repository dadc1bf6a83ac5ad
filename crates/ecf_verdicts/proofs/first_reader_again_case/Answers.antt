use Rattle.ecf_verdicts.proofs.CaseLaws as laws
use Rattle.ecf_verdicts.proofs.first_reader_again_case.Goals as goal

pub returns : goal.returns
returns c = laws.first_reader_again_case
