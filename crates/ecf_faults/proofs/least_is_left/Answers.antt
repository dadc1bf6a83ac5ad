use Rattle.ecf_faults.proofs.LeastLaws.{left_is_least, left_of_none}
use Rattle.ecf_faults.proofs.least_is_left.Goals as goal

pub returns-clause-some : goal.returns-clause-some
returns-clause-some c = left_is_least

pub returns-clause-none : goal.returns-clause-none
returns-clause-none c = left_of_none
