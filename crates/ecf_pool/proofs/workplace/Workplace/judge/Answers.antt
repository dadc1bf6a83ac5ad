use Rattle.ecf_pool.proofs.WorkLaws.{judged_is_of, draft_row}
use Rattle.ecf_pool.proofs.workplace.Workplace.judge.Goals as goal

pub commit-requires-clause-judged : goal.commit-requires-clause-judged
commit-requires-clause-judged g c = judged_is_of (g.D.Desk.setup c.args.self.now.desk.now) c.args.draft c.in-Ok.judged c.requires.draft c.in-Ok.ensures.judged c.in-Ok.ensures.under_each_contract

pub give_back-requires-in-Err-clause-row : goal.give_back-requires-in-Err-clause-row
give_back-requires-in-Err-clause-row g c = draft_row (g.D.Desk.setup c.args.self.now.desk.now) c.args.draft c.work.result.now c.requires.draft c.work.ensures
