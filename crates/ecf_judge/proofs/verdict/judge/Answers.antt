use Rattle.ecf_judge.proofs.ObjectLaws.{approved_few}
use Rattle.ecf_judge.proofs.MembershipLaws.{one_few}
use Rattle.std.proofs.Common.{sym, ◌∙◌}
use Rattle.ecf_judge.proofs.verdict.judge.Goals as goal

pub returns-then-is_of_one : goal.returns-then-is_of_one
returns-then-is_of_one c = approved_few c.members_are.ensures c.single_free.ensures c.test_tells_free.ensures c.args.steps.now c.new.result c.new.ensures (one_few c.args.steps.now (sym c.is_of_one.ensures ∙ c.if-is_of_one.true))
