use Rattle.ecf_verdicts.proofs.JournalLaws as laws
use Rattle.ecf_verdicts.proofs.along_each.Goals as goal

pub returns : goal.returns
returns c = laws.along_each
