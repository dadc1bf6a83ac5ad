use Rattle.ecf_verdicts.proofs.JournalLaws as laws
use Rattle.ecf_verdicts.proofs.first_parts_legal.Goals as goal

pub returns : goal.returns
returns c = laws.first_parts_legal
