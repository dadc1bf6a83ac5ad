use Rattle.ecf_handoff.specs.Handoffs.{IsPass}
use Rattle.ecf_crew_tests.proofs.queue_tests.failures_of.Given as goal

abbrev pub invariant-loop-i : goal.invariant-loop-i
invariant-loop-i g l = IsPass l.queue l.pass
