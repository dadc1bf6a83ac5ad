use Rattle.std.proofs.Common.{◌≡◌}
use Rattle.ecf_handoff.specs.Handoffs.{IsPass, account_of}
use Rattle.ecf_crew_tests.proofs.queue_tests.fill.Given as goal

-- the pass is one of the queue's, with the share that it had
abbrev pub invariant-loop-number : goal.invariant-loop-number
invariant-loop-number g l = IsPass l.queue l.pass × ((account_of l.pass).share ≡ (account_of l.initial.pass).share)
