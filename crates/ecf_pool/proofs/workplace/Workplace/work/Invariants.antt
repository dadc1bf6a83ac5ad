use Rattle.std.proofs.Common.{◌≡◌}
use Rattle.ecf_pool.specs.Places.{AreToolsAt, IsTodo, share_of}
use Rattle.ecf_pool.proofs.workplace.Workplace.work.Given as goal

-- after each step the thread has tools, with the same share, and something to do
abbrev pub invariant-loop : goal.invariant-loop
invariant-loop g l = AreToolsAt g.D.Desk.is_seat l.self l.tools × (share_of l.tools ≡ share_of l.initial.tools) × IsTodo (g.D.Desk.setup l.self.desk.now) l.todo
