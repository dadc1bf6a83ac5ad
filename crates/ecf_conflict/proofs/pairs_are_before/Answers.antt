use Rattle.ecf_conflict.proofs.JoinLaws as proved
use Rattle.ecf_conflict.proofs.pairs_are_before.Goals as goal

pub returns : goal.returns
returns c = proved.pairs_are_before c.before_is_of_members.ensures
