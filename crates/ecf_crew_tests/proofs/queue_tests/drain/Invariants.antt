use Rattle.ecf_handoff.specs.Handoffs.{IsPass}
use Rattle.ecf_crew_tests.proofs.queue_tests.drain.Given as goal

abbrev pub invariant-loop : goal.invariant-loop
invariant-loop g l = IsPass l.queue l.pass
