-- The decision is the one on the transaction's run, so it is right on the store, and its writes rise as those of the run do.
use Rattle.std.proofs.Common.{◌∙◌, ap}
use Rattle.ecf_draft.specs.Drafts.{decision_of}
use Rattle.ecf_draft.proofs.DraftLaws.{is_right, is_rising}
use Rattle.ecf_draft.proofs.judging.run_and_judge.Goals as goal

pub returns-clause-right : goal.returns-clause-right
returns-clause-right g c =
    is_right c.run_is_drafted.ensures c.draft_is_judged.ensures c.reads_are_stored.ensures c.args.typed.now
    (g.R.CellRead.store c.args.store.now) c.args.tx.now c.decided.result c.know_store.ensures c.requires.fits
    (c.decided.ensures ∙ ap decision_of c.in_ok-run.ensures)

pub returns-clause-rising : goal.returns-clause-rising
returns-clause-rising g c =
    is_rising c.writes_rise.ensures c.args.typed.now (g.R.CellRead.store c.args.store.now) c.args.tx.now c.decided.result
    (c.decided.ensures ∙ ap decision_of c.in_ok-run.ensures)
