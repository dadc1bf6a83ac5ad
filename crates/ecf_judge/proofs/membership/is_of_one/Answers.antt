use Rattle.std.proofs.Common.{◌∙◌, arith}
use Rattle.ecf_judge.proofs.MembershipLaws.{one_none, one_first}
use Rattle.ecf_judge.proofs.membership.is_of_one.Goals as goal

pub returns-in-empty : goal.returns-in-empty
returns-in-empty c = one_none c.args.steps.now c.in-empty.len_below

pub returns-in-len1-up : goal.returns-in-len1-up
returns-in-len1-up c = c.all_of.ensures ∙ one_first c.args.steps.now _ _ c.in-len1-up.len_at_least (omega arith)
