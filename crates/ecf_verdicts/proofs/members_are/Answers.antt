use Rattle.ecf_verdicts.proofs.MemberLaws as laws
use Rattle.ecf_verdicts.proofs.members_are.Goals as goal

pub returns : goal.returns
returns c = laws.members_are
