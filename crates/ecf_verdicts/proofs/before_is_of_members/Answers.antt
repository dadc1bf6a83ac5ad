use Rattle.ecf_verdicts.proofs.MemberLaws as laws
use Rattle.ecf_verdicts.proofs.before_is_of_members.Goals as goal

pub returns : goal.returns
returns c = laws.before_is_of_members
