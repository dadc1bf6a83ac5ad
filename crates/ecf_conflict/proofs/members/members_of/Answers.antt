use Rattle.std.proofs.Common.{◌∙◌}
use Rattle.std.proofs.lemmas.Result.{IfOk-weaker}
use Rattle.ecf_conflict.proofs.members.members_of.Goals as goal

pub returns : goal.returns
returns c = IfOk-weaker c.list_below.result _ _ (λ v e. e ∙ c.numbers_are_members.ensures c.args.steps.now _ _ c.in_ok-row.ensures.members c.in_ok-row.ensures.above) c.list_below.ensures
