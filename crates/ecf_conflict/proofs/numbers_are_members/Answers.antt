use Rattle.ecf_conflict.proofs.PairLaws as proved
use Rattle.ecf_conflict.proofs.numbers_are_members.Goals as goal

pub returns : goal.returns
returns c = proved.numbers_are_members c.members_are.ensures
