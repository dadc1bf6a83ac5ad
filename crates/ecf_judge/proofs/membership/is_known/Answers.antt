use Rattle.ecf_judge.proofs.MembershipLaws.{again_only, again_several}
use Rattle.ecf_judge.proofs.membership.is_known.Goals as goal

pub returns-in-Only : goal.returns-in-Only
returns-in-Only c same = again_only _ c.in-Only.first c.args.inv c.in-Only.is same

pub returns-in-Several : goal.returns-in-Several
returns-in-Several c _ = again_several _ c.args.inv c.in-Several.is
