-- What was judged stands for the draft under each contract, by the law of judged drafts.
use Rattle.ecf_draft.proofs.DraftLaws.{is_judged}
use Rattle.ecf_draft.proofs.decisions.decide.Goals as goal

pub returns-in-Ok-clause-under_each_contract : goal.returns-in-Ok-clause-under_each_contract
returns-in-Ok-clause-under_each_contract c = is_judged c.draft_is_judged.ensures c.args.draft c.judged_of.result c.judged_of.ensures
