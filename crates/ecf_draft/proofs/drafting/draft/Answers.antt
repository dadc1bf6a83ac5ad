-- The draft is the work with its transaction's run, which is drafted under the contract by the law of kept runs.
use Rattle.std.proofs.Common.{◌∙◌}
use Rattle.ecf_draft.proofs.DraftLaws.{is_drafted}
use Rattle.ecf_draft.proofs.drafting.draft.Goals as goal

pub returns-in-Ok-clause-under_contract : goal.returns-in-Ok-clause-under_contract
returns-in-Ok-clause-under_contract c =
    is_drafted c.run_is_drafted.ensures c.args.typed.now c.args.work c.new.result.work c.new.result.run
    c.requires.fits c.new.ensures.work (c.new.ensures.run ∙ c.in-Ok.ensures)
