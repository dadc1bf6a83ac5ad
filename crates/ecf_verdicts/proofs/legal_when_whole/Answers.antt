use Rattle.ecf_verdicts.proofs.JournalLaws as laws
use Rattle.ecf_verdicts.proofs.legal_when_whole.Goals as goal

pub returns : goal.returns
returns c = laws.legal_when_whole
